-- Things that were looked at one by one.
use Rattle.std.proofs.Common.{◌≡◌, ◌∙◌, ◌⊎◌, ℕ, ◌+◌, ◌<◌, ◌≤◌, List, All, length, get_or, arith, subst, sym, ap, inl, inr}
use Rattle.std.proofs.lemmas.Bool.{cases_lt}
use Rattle.std.proofs.lemmas.List.{get_or_default}

-- one that isn't so is among them
pub not_all : {A : Type 0} (P : A → Type 0) (xs : List A) (i : ℕ) (x : A) → i < length xs → x ≡ get_or xs i x → ¬ P x
    → All P xs → ⊥
not_all P xs i x less is not each = not (subst P (sym is) (each i x less))

-- those so far are so, and the next one
pub one_further : {A : Type 0} (P : A → Type 0) (xs : List A) (i : ℕ) (x : A) → i < length xs → x ≡ get_or xs i x
    → ((k : ℕ) (d : A) → k < i → P (get_or xs k d)) → P x → (k : ℕ) (d : A) → k < i + 1 → P (get_or xs k d)
one_further {A = A} P xs i x less is before here k d lt = by (cases_lt k i)
  where
    by : (k < i) ⊎ (i ≤ k) → P (get_or xs k d)
    by (inl l) = before k d l
    by (inr l) =
        let same : i ≡ k = omega (arith, lt, l) in
        subst P (is ∙ get_or_default xs i x d less ∙ ap (λ (n : ℕ). get_or xs n d) same) here
