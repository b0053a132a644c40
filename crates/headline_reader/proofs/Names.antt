-- The names of items.
use Rattle.std.proofs.Common.{◌≡◌, ◌↔◌, ℕ, zero, suc, List, [], ◌∷◌, refl, arith}
use Rattle.std.specs.Prelude.{Any, Contains}
use Rattle.heat_plan.specs.Plans.{names_of}
use Rattle.heat_plan.specs.declared.item.Item.{Item}

pub to_names : (items : List Item) (name : List ℕ) → Any (λ (i : Item). i.name ≡ name) items → Contains (names_of items) name
to_names [] name (k, x, lt, at, is) = absurd (omega (arith, lt))
to_names (i ∷ items) name (zero, x, lt, at, is) = (0, omega arith, let same : i ≡ x = at in rw same is)
to_names (i ∷ items) name (suc k, x, lt, at, is) = let (p, in_, here) = to_names items name (k, x, omega (arith, lt), at, is) in (suc p, omega (arith, in_), here)

pub from_names : (items : List Item) (name : List ℕ) → Contains (names_of items) name → Any (λ (i : Item). i.name ≡ name) items
from_names [] name (k, lt, at) = absurd (omega (arith, lt))
from_names (i ∷ items) name (zero, lt, at) = (0, i, omega arith, refl, at)
from_names (i ∷ items) name (suc k, lt, at) = let (p, x, in_, here, is) = from_names items name (k, omega (arith, lt), at) in (suc p, x, omega (arith, in_), here, is)

pub named : (items : List Item) (name : List ℕ) → Any (λ (i : Item). i.name ≡ name) items ↔ Contains (names_of items) name
named items name = (to_names items name, from_names items name)
