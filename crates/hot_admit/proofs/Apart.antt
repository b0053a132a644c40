-- No name is both wanted and absent.
use Rattle.std.proofs.Common.{◌≡◌, ◌⊎◌, ℕ, List, [], ◌∷◌, Bool, true, false, All, Contains, inl, inr, subst}
use Rattle.std.proofs.Common.{if◌then◌else◌}
use Rattle.std.specs.Bool.{beq}
use Rattle.std.specs.Cmp.Lexicographic.{slice_cmp}
use Rattle.std.specs.List.Sorted.{IsStrictlySortedBy}
use Rattle.std.specs.Ordering.{nat_cmp}
use Rattle.std.specs.declared.cmp.Ordering.TheVariants.{Less}
use Rattle.std.proofs.lemmas.List.Elements.{All-nil, All-cons, All-head, All-tail, All-contains, All-from_recursion}
use Rattle.heat_plan.specs.Order.{Rising}
use Rattle.hot_admit.specs.Items.{names_marked}
use Rattle.hot_admit.specs.Resources.{ResourceData, names_of}
use Rattle.hot_admit.specs.declared.conds.Wanted.{Wanted}
use Rattle.hot_admit.proofs.Chosen.{Behind, behind_marked}
use Rattle.hot_admit.proofs.Members.{front_cases}
use Rattle.hot_admit.proofs.Rising.{not_less_itself}

abbrev Apart : List (List ℕ) → List (List ℕ) → Type 0
Apart ts fs = All (λ n. ¬ Contains ts n) fs

-- one more name, before all of them
with_first : (x : List ℕ) (ts fs : List (List ℕ)) → Apart ts fs → Behind x fs → Apart (x ∷ ts) fs
with_first x ts [] apart behind = All-nil (λ n. ¬ Contains (x ∷ ts) n)
with_first x ts (f ∷ fs) apart behind =
    All-cons (λ n. ¬ Contains (x ∷ ts) n) f fs (λ h. by (front_cases x ts f h))
    (with_first x ts fs (All-tail (λ n. ¬ Contains ts n) f fs apart) behind.1)
  where
    by : (f ≡ x) ⊎ Contains ts f → ⊥
    by (inl e) = not_less_itself x (subst (λ (z : List ℕ). slice_cmp nat_cmp x z ≡ Less) e behind.0)
    by (inr h) = All-head (λ n. ¬ Contains ts n) f fs apart h

-- a name isn't behind itself
not_behind : (x : List ℕ) (ts : List (List ℕ)) → Behind x ts → ¬ Contains ts x
not_behind x ts behind h =
    not_less_itself x (All-contains (λ y. slice_cmp nat_cmp x y ≡ Less) ts x
    (All-from_recursion (λ y. slice_cmp nat_cmp x y ≡ Less) ts behind) h)

pub apart_marked : (rs : List ResourceData) (ws : List Wanted) → Rising (names_of rs)
    → Apart (names_marked true rs ws) (names_marked false rs ws)
unfolding IsStrictlySortedBy
apart_marked [] ws up = All-nil (λ n. ¬ Contains [] n)
apart_marked (r ∷ rs) [] up = All-nil (λ n. ¬ Contains [] n)
apart_marked (r ∷ rs) (w ∷ ws) up =
    by w.wanted (apart_marked rs ws up.1) (behind_marked r.name true rs ws up.0) (behind_marked r.name false rs ws up.0)
  where
    by : (b : Bool) → Apart (names_marked true rs ws) (names_marked false rs ws)
        → Behind r.name (names_marked true rs ws)
        → Behind r.name (names_marked false rs ws)
        → Apart (if beq b true then r.name ∷ names_marked true rs ws else names_marked true rs ws)
        (if beq b false then r.name ∷ names_marked false rs ws else names_marked false rs ws)
    by true apart bt bf = with_first r.name (names_marked true rs ws) (names_marked false rs ws) apart bf
    by false apart bt bf =
        All-cons (λ n. ¬ Contains (names_marked true rs ws) n) r.name (names_marked false rs ws)
        (not_behind r.name (names_marked true rs ws) bt) apart
