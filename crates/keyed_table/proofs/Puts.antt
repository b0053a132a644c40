-- A put, by the place of its key.
use Rattle.std.proofs.Common.{◌≡◌, ℕ, Bool, true, false, cond, List, [], ◌∷◌, ◌++◌, set, add-one, length, ◌<◌, Some, None, refl, sym, ap}
use Rattle.std.specs.Prelude.{◌+◌}
use Rattle.std.specs.List.{position_from}
use native.Mathlib.Omega.{arith}
use Rattle.heat_plan.specs.Tables.{put}

-- the place of the first that passes, counted from another number
pub position_from-shift : {A : Type 0} (t : A → Bool) (k : ℕ) (xs : List A) (i : ℕ) → position_from t (k + 1) xs ≡ Some i → (j : ℕ) × (i ≡ j + 1) × (position_from t k xs ≡ Some j)
position_from-shift t k [] i h = cc
position_from-shift t k (y ∷ ys) i h = by (t y) h (position_from-shift t (k + 1) ys i) where
  by : (b : Bool) → cond b (Some (k + 1)) (position_from t (k + 1 + 1) ys) ≡ Some i → (position_from t (k + 1 + 1) ys ≡ Some i → (j : ℕ) × (i ≡ j + 1) × (position_from t (k + 1) ys ≡ Some j)) → (j : ℕ) × (i ≡ j + 1) × (cond b (Some k) (position_from t (k + 1) ys) ≡ Some j)
  by true e rest = let f : k + 1 ≡ i = cc in (k, sym f, refl)
  by false e rest = rest e

pub position_from-none : {A : Type 0} (t : A → Bool) (k m : ℕ) (xs : List A) → position_from t k xs ≡ None → position_from t m xs ≡ None
position_from-none t k m [] h = refl
position_from-none t k m (y ∷ ys) h = by (t y) h (position_from-none t (k + 1) (m + 1) ys) where
  by : (b : Bool) → cond b (Some k) (position_from t (k + 1) ys) ≡ None → (position_from t (k + 1) ys ≡ None → position_from t (m + 1) ys ≡ None) → cond b (Some m) (position_from t (m + 1) ys) ≡ None
  by true e rest = cc
  by false e rest = rest e

pub put-at : {K A : Type 0} (same : K → K → Bool) (key : A → K) (x : A) (xs : List A) (i : ℕ)
    → position_from (λ y. same (key y) (key x)) 0 xs ≡ Some i → put same key x xs ≡ set xs i x
unfolding put
put-at same key x [] i h = cc
put-at {A = A} same key x (y ∷ ys) i h = by (same (key y) (key x)) h (put-at same key x ys) where
  by : (b : Bool) → cond b (Some 0) (position_from (λ y. same (key y) (key x)) 1 ys) ≡ Some i → ((j : ℕ) → position_from (λ y. same (key y) (key x)) 0 ys ≡ Some j → put same key x ys ≡ set ys j x) → cond b (x ∷ ys) (y ∷ put same key x ys) ≡ set (y ∷ ys) i x
  by true e rest = let f : 0 ≡ i = cc in rw (← f) refl
  by false e rest = let (j, is, at) = position_from-shift (λ y. same (key y) (key x)) 0 ys i e in rw (is, rest j at, add-one) refl

pub put-none : {K A : Type 0} (same : K → K → Bool) (key : A → K) (x : A) (xs : List A)
    → position_from (λ y. same (key y) (key x)) 0 xs ≡ None → put same key x xs ≡ xs ++ x ∷ []
unfolding put
put-none same key x [] h = refl
put-none same key x (y ∷ ys) h = by (same (key y) (key x)) h (λ e. put-none same key x ys (position_from-none (λ y. same (key y) (key x)) 1 0 ys e)) where
  by : (b : Bool) → cond b (Some 0) (position_from (λ y. same (key y) (key x)) 1 ys) ≡ None → (position_from (λ y. same (key y) (key x)) 1 ys ≡ None → put same key x ys ≡ ys ++ x ∷ []) → cond b (x ∷ ys) (y ∷ put same key x ys) ≡ y ∷ (ys ++ x ∷ [])
  by true e rest = cc
  by false e rest = ap (λ (zs : _). y ∷ zs) (rest e)

pub position-within : {A : Type 0} (t : A → Bool) (k : ℕ) (xs : List A) (i : ℕ) → position_from t k xs ≡ Some i → i < k + length xs
position-within t k [] i h = cc
position-within t k (y ∷ ys) i h = by (t y) h (position-within t (k + 1) ys i) where
  by : (b : Bool) → cond b (Some k) (position_from t (k + 1) ys) ≡ Some i → (position_from t (k + 1) ys ≡ Some i → i < k + 1 + length ys) → i < k + length (y ∷ ys)
  by true e rest = let f : k ≡ i = cc in omega arith
  by false e rest = let l = rest e in omega arith

pub ruleset puts = (put-at, put-none)
