-- The items of resources that can be made items of.
use Rattle.std.proofs.Common.{◌≡◌, ℕ, suc, List, [], ◌∷◌, Bool, true, false, All, Contains, filter, cond}
use Rattle.std.proofs.Common.{length, refl, ap}
use Rattle.std.proofs.lemmas.List.Elements.{All-nil, All-cons, All-head, All-tail}
use Rattle.heat_plan.specs.Plans.{names_of as item_names}
use Rattle.heat_plan.specs.declared.item.Item.{Item}
use Rattle.hot_admit.specs.Basis.{BasisData}
use Rattle.hot_admit.specs.Items.{IsFit, items_with, named_by}
use Rattle.hot_admit.specs.Resources.{ResourceData, names_of}
use Rattle.hot_forms.specs.Checks.{is_among}
use Rattle.hot_admit.proofs.Members.{first_is, behind}

-- what is kept of a list is in it
kept_in : {A : Type 0} (p : A → Bool) (xs ys : List A) → ((x : A) → Contains xs x → Contains ys x)
    → All (Contains ys) (filter p xs)
kept_in p [] ys in' = All-nil (Contains ys)
kept_in {A = A} p (x ∷ xs) ys in' = by (p x) (kept_in p xs ys (λ z h. in' z (behind x xs z h)))
  where
    by : (b : Bool) → All (Contains ys) (filter p xs) → All (Contains ys) (cond b (x ∷ filter p xs) (filter p xs))
    by true rest = All-cons (Contains ys) x (filter p xs) (in' x (first_is x xs x refl)) rest
    by false rest = rest

module _ (b : BasisData) (names : List (List ℕ)) where
  -- they have the names of the resources
  pub made_names : (rs : List ResourceData) → All (IsFit b) rs → item_names (items_with b names rs) ≡ names_of rs
  made_names [] all = refl
  made_names (r ∷ rs) all =
      rw (All-head (IsFit b) r rs all).kind_is
      (ap (λ (l : List (List ℕ)). r.name ∷ l) (made_names rs (All-tail (IsFit b) r rs all)))

  -- each needs only what is among the names
  pub made_met : (rs : List ResourceData) → All (IsFit b) rs
      → All (λ (i : Item). All (Contains names) i.needs) (items_with b names rs)
  made_met [] all = All-nil (λ (i : Item). All (Contains names) i.needs)
  made_met (r ∷ rs) all =
      rw (All-head (IsFit b) r rs all).kind_is
      (All-cons (λ (i : Item). All (Contains names) i.needs) _ (items_with b names rs)
      (kept_in (is_among (named_by r)) names names (λ x h. h)) (made_met rs (All-tail (IsFit b) r rs all)))

  pub made_count : (rs : List ResourceData) → All (IsFit b) rs → length (items_with b names rs) ≡ length rs
  made_count [] all = refl
  made_count (r ∷ rs) all =
      rw (All-head (IsFit b) r rs all).kind_is
      (ap suc (made_count rs (All-tail (IsFit b) r rs all)))
