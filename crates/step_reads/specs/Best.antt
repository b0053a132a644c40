-- The first of some records by a key.
use Rattle.std.specs.Prelude.{Bool, None, Option, Some, cond, ℕ, ◌≡◌}

-- of two records the one whose key is first by a test, the earlier one where both keys are
abbrev pub first_by : {A : Type 0} → (ℕ → ℕ → Bool) → (A → ℕ) → Option A → A → A
first_by le key None y = y
first_by le key (Some best) y = cond (le (key best) (key y)) best y

-- of the best and a record that was found the one whose key is first, if the record is of the kind
pub data Improves {A : Type 0} (le : ℕ → ℕ → Bool) (key : A → ℕ) (Of : A → Type 0) (best found new : Option A) : Type
    0 where
  none : found ≡ None → new ≡ best → Improves le key Of best found new
  other : (x : A) → found ≡ Some x → ¬ Of x → new ≡ best → Improves le key Of best found new
  taken : (x : A) → found ≡ Some x → Of x → new ≡ Some (first_by le key best x) → Improves le key Of best found new
