-- What is found under a name is what stands at the name's place.
use Rattle.std.proofs.Common.{◌≡◌, ◌∙◌, ℕ, ◌+◌, cond, Bool, true, false, not, List, [], ◌∷◌, Some, None, length, refl, sym, ap, suc, arith}
use Rattle.std.specs.Prelude.{slice_get}
use Rattle.std.specs.Str.{bytes_eq}
use Rattle.std.proofs.lemmas.Slice.Eq.{bytes_eq-Decides}
use Rattle.heat_plan.specs.Tables.{at}
use Rattle.heat_plan.specs.declared.item.Item.{Item}
use Rattle.core_state.specs.Reads.{item_at}
use Rattle.traversal_graph.specs.Candidates.{place_of}

turned : (k l : List ℕ) → bytes_eq k l ≡ bytes_eq l k
turned k l = by (bytes_eq k l) (bytes_eq l k) refl refl where
  by : (a b : Bool) → bytes_eq k l ≡ a → bytes_eq l k ≡ b → a ≡ b
  by true true e f = refl
  by false false e f = refl
  by true false e f = let g : bytes_eq l k ≡ true = (bytes_eq-Decides l k).1 (sym ((bytes_eq-Decides k l).0 e)) in cc
  by false true e f = let g : bytes_eq k l ≡ true = (bytes_eq-Decides k l).1 (sym ((bytes_eq-Decides l k).0 f)) in cc

-- an item's name finds what stands at its place, and nothing past all
pub at_its_place : (items : List Item) (name : List ℕ) → slice_get items (place_of items name) ≡ item_at items name
unfolding at
at_its_place [] name = refl
at_its_place (x ∷ items) name = by (bytes_eq x.name name) (turned name x.name) (at_its_place items name) where
  by : (b : Bool) → bytes_eq name x.name ≡ b → slice_get items (place_of items name) ≡ item_at items name
      → slice_get (x ∷ items) (place_of (x ∷ items) name) ≡ cond b (Some x) (item_at items name)
  by true e rest = ap (λ c. slice_get (x ∷ items) (cond (not c) (1 + place_of items name) 0)) e
  by false e rest =
      let next : 1 + place_of items name ≡ suc (place_of items name) = omega arith in
      ap (λ c. slice_get (x ∷ items) (cond (not c) (1 + place_of items name) 0)) e ∙ ap (slice_get (x ∷ items)) next ∙ rest
