-- A plan of no items is one, whatever is absent.
use Rattle.std.proofs.Common.{◌≡◌, ℕ, List, [], ◌∷◌, arith, sym, subst}
use Rattle.std.specs.Prelude.{All, Contains}
use Rattle.std.specs.List.Sorted.{IsStrictlySortedBy}
use Rattle.std.proofs.lemmas.List.Elements.{All-nil, All-cons}
use Rattle.std.proofs.lemmas.List.Sorted.{IsPermutation-refl}
use Rattle.heat_plan.specs.Order.{Rising}
use Rattle.heat_plan.specs.Plans.{IsPlan, names_of}
use Rattle.heat_plan.specs.declared.item.Item.{Item}

rises : Rising []
unfolding IsStrictlySortedBy
rises = tt

nobody : (name : List ℕ) → ¬ Contains (names_of []) name
nobody name (i, lt, e) = omega (arith, lt)

apart : (names : List (List ℕ)) → All (λ name. ¬ Contains (names_of []) name) names
apart [] = All-nil _
apart (name ∷ names) = All-cons (λ (n : List ℕ). ¬ Contains (names_of []) n) name names (nobody name) (apart names)

-- whatever is absent
pub no_item_is_plan : (items : List Item) (absent : List (List ℕ)) → items ≡ [] → IsPlan items absent
no_item_is_plan items absent e = subst (λ (is : List Item). IsPlan is absent) (sym e) (record {
  rising = rises;
  met = All-nil _;
  acyclic = ([], record { same = IsPermutation-refl []; behind = λ p x at. cc });
  apart = apart absent;
})
