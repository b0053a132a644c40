-- The first element that passes a test, after an element is added, changed or removed.
use Rattle.std.proofs.Common.{◌≡◌, ◌≢◌, ◌⊎◌, ◌<◌, ◌≤◌, ◌+◌, ◌∙◌, ℕ, Bool, true, false, cond, List, [], ◌∷◌, ◌++◌, length, zero, suc, get_or, map, Some, None, nat_lt, refl, sym, ap, arith, inl, inr}
use Rattle.std.proofs.lemmas.Grind.{common_steps}
use Rattle.std.specs.Prelude.{find, position, remove, slice_set, slice_get, option_map}
use Rattle.std.specs.List.{position_or_len}
use Rattle.std.proofs.lemmas.List.Folds.{find_at, find-set, find-append}
use Rattle.std.proofs.lemmas.List.Edits.{get_or-remove_below, get_or-remove_above, length-remove}
use Rattle.std.proofs.lemmas.Option.{get_or_from_slice_get}
use Rattle.std.proofs.lemmas.List.Quantifiers.{position-Some}

pub find-map : {X Y : Type 0} (p : Y → Bool) (f : X → Y) (xs : List X) → find p (map f xs) ≡ option_map f (find (λ x. p (f x)) xs)
find-map p f [] = refl
find-map p f (x ∷ xs) = by (p (f x)) (find-map p f xs) where
  by : (b : Bool) → find p (map f xs) ≡ option_map f (find (λ x. p (f x)) xs) → cond b (Some (f x)) (find p (map f xs)) ≡ option_map f (cond b (Some x) (find (λ x. p (f x)) xs))
  by true e = refl
  by false e = e

past : {X : Type 0} (xs : List X) (n : ℕ) → length xs ≤ n → slice_get xs n ≡ None
past [] n h = refl
past (x ∷ xs) zero h = absurd (omega (arith, h))
past (x ∷ xs) (suc n) h = past xs n (omega (arith, h))

beyond : (n m : ℕ) → cond (nat_lt n m) (Some n) None ≡ None → m ≤ n
beyond n m e = grind (arith, common_steps)

module _ {X : Type 0} (p : X → Bool) where
  pub position-first : (xs : List X) (i : ℕ) → position p xs ≡ Some i → (i ≡ position_or_len p xs) × (i < length xs)
  position-first xs i e =
      let at : position_or_len p xs ≡ i = grind (arith, common_steps) in
      let lt : i < length xs = grind (arith, common_steps) in
      (sym at, lt)

  -- what stands at the place is what is found
  pub find-position : (xs : List X) (i : ℕ) (x : X) → position p xs ≡ Some i → slice_get xs i ≡ Some x → find p xs ≡ Some x
  find-position xs i x e at = let f = position-first xs i e in rw (find_at p xs, ← f.0) at

  pub find-position_None : (xs : List X) → position p xs ≡ None → find p xs ≡ None
  find-position_None xs e = find_at p xs ∙ past xs (position_or_len p xs) (beyond (position_or_len p xs) (length xs) e)

  pub passes : (xs : List X) (i : ℕ) (x : X) → position p xs ≡ Some i → slice_get xs i ≡ Some x → p x ≡ true
  passes xs i x e at = let f = position-Some p xs i x e in rw (← get_or_from_slice_get xs i x x at) f.1

  pub find-position_set : (xs : List X) (i : ℕ) (y : X) → position p xs ≡ Some i → p y ≡ true → find p (slice_set xs i y) ≡ Some y
  find-position_set xs i y e h = let f = position-first xs i e in find-set p xs i y f.0 f.1 h

  pub find-push : (xs : List X) (y : X) → find p xs ≡ None → p y ≡ true → find p (xs ++ y ∷ []) ≡ Some y
  find-push xs y none h = rw (find-append p xs (y ∷ []), none, h) refl

  pub find-push_other : (xs : List X) (y : X) → p y ≡ false → find p (xs ++ y ∷ []) ≡ find p xs
  find-push_other [] y h = rw h refl
  find-push_other (x ∷ xs) y h = ap (cond (p x) (Some x)) (find-push_other xs y h)

  pub find-none : (xs : List X) → ((k : ℕ) (d : X) → k < length xs → p (get_or xs k d) ≡ false) → find p xs ≡ None
  find-none [] h = refl
  find-none (x ∷ xs) h = rw (h 0 x (omega arith)) (find-none xs (λ k d lt. h (suc k) d (omega (arith, lt))))

  pub find-remove_other : (xs : List X) (i : ℕ) (x : X) → slice_get xs i ≡ Some x → p x ≡ false → find p (remove xs i) ≡ find p xs
  find-remove_other [] i x at h = cc
  find-remove_other (y ∷ ys) zero x at h = let e : y ≡ x = cc in rw (e, h) refl
  find-remove_other (y ∷ ys) (suc i) x at h = ap (cond (p y) (Some y)) (find-remove_other ys i x at h)

  -- where nothing else passes
  pub find-remove : (xs : List X) (i : ℕ) → i < length xs → ((k : ℕ) (d : X) → k < length xs → k ≢ i → p (get_or xs k d) ≡ false) → find p (remove xs i) ≡ None
  find-remove xs i lt h = find-none (remove xs i) (λ k d within. at k d within (k_or k)) where
    k_or : (k : ℕ) → (k < i) ⊎ (i ≤ k)
    k_or k = grind (arith, common_steps)

    at : (k : ℕ) (d : X) → k < length (remove xs i) → (k < i) ⊎ (i ≤ k) → p (get_or (remove xs i) k d) ≡ false
    at k d within (inl low) = rw (get_or-remove_below xs i d k low lt) (h k d (omega (arith, low, lt)) (λ e. omega (arith, low, e)))
    at k d within (inr high) = let long = length-remove xs i lt in rw (get_or-remove_above xs i d k high lt) (h (k + 1) d (omega (arith, within, long)) (λ e. omega (arith, high, e)))
