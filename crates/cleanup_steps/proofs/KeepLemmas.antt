-- Which row is kept: the plan has its name, and it is its name's current one.
use Rattle.std.proofs.Common.{◌≡◌, ℕ, List, [], ◌∷◌, Some, None, refl, sym, subst, inl, inr}
use Rattle.std.specs.Prelude.{Contains, Option, IsTrue, is_some, option_map}
use Rattle.std.specs.Str.{bytes_eq}
use Rattle.std.proofs.lemmas.Slice.Eq.{bytes_eq-Decides}
use Rattle.heat_plan.specs.Plans.{names_of}
use Rattle.heat_plan.specs.Tables.{at}
use Rattle.heat_plan.specs.declared.item.Item.{Item}
use Rattle.core_state.specs.Reads.{item_at}
use Rattle.history_laws.proofs.tables.Fresh.{item_of}
use Rattle.history_laws.proofs.tables.Puts.{contains_head, contains_there}
use Rattle.history_laws.proofs.tables.Tables.{cases}

-- the name of an item that is found is one of the names
pub named_in : (items : List Item) (name : List ℕ) (item : Item) → item_at items name ≡ Some item
    → Contains (names_of items) name
unfolding at
named_in [] name item found = cc
named_in (x ∷ xs) name item found = elim (cases bytes_eq bytes_eq-Decides (λ (i : Item). i.name) x.name name) [
  | inl is ↦ subst (Contains (x.name ∷ names_of xs)) is.1 (contains_head x.name (names_of xs))
  | inr not ↦ contains_there x.name name (names_of xs) (named_in xs name item (rw not.0 at found))
]

-- an item was found exactly where the names have its name
pub is_named : {B : Type 0} (f : B → Item) (items : List Item) (name : List ℕ) (o : Option B)
    → option_map f o ≡ item_at items name
    → (IsTrue (is_some o) → Contains (names_of items) name) × (Contains (names_of items) name → IsTrue (is_some o))
is_named f items name (Some x) found = (λ _. named_in items name (f x) (sym found), λ _. refl)
is_named f items name None found = (λ f. cc, λ c. let (x, at) = item_of items name c in cc)
