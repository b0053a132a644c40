-- What a table has at a key, after a put and a cut.
use Rattle.std.proofs.Common.{◌≡◌, ◌≢◌, ◌⊎◌, inl, inr, ℕ, zero, suc, Bool, true, false, cond, List, [], ◌∷◌, Some, None}
use Rattle.std.proofs.Common.{refl, sym, ap, ◌∙◌, subst}
use Rattle.std.specs.Prelude.{Decides, IsSome, map, slice_get, slice_set}
use Rattle.heat_plan.specs.Tables.{at, put, cut}

module _ {K A : Type 0} (same : K → K → Bool) (decides : (x y : K) → Decides (same x y) (x ≡ y)) (key : A → K) where
  pub cases : (x y : K) → ((same x y ≡ true) × (x ≡ y)) ⊎ ((same x y ≡ false) × (x ≢ y))
  cases x y = by (same x y) refl where
    by : (b : Bool) → same x y ≡ b → ((same x y ≡ true) × (x ≡ y)) ⊎ ((same x y ≡ false) × (x ≢ y))
    by true e = inl (e, (decides x y).0 e)
    by false e = inr (e, λ is. let t : same x y ≡ true = (decides x y).1 is in cc)

  pub at-key : (xs : List A) (k : K) (x : A) → at same key xs k ≡ Some x → key x ≡ k
  unfolding at
  at-key [] k x h = cc
  at-key (y ∷ ys) k x h = elim (cases (key y) k) [
    | inl is ↦ let e : Some y ≡ Some x = rw is.0 at h in let f : y ≡ x = cc in rw (← f) is.1
    | inr not ↦ at-key ys k x (rw not.0 at h)
  ]

  pub at-put_same : (x : A) (xs : List A) → at same key (put same key x xs) (key x) ≡ Some x
  unfolding at put
  at-put_same x [] = rw ((decides (key x) (key x)).1 refl) refl
  at-put_same x (y ∷ ys) = elim (cases (key y) (key x)) [
    | inl is ↦ rw (is.0, (decides (key x) (key x)).1 refl) refl
    | inr not ↦ rw (not.0, not.0) (at-put_same x ys)
  ]

  pub at-put_other : (x : A) (xs : List A) (k : K) → key x ≢ k → at same key (put same key x xs) k ≡ at same key xs k
  unfolding at put
  at-put_other x [] k ne = elim (cases (key x) k) [ inl is ↦ absurd (ne is.1) | inr not ↦ rw not.0 refl ]
  at-put_other x (y ∷ ys) k ne = elim (cases (key y) (key x)) [
    | inl is ↦ elim (cases (key x) k) [ inl i ↦ absurd (ne i.1) | inr not ↦ rw (is.0, not.0, is.1, not.0) refl ]
    | inr no_ ↦ rw no_.0 (ap (cond (same (key y) k) (Some y)) (at-put_other x ys k ne))
  ]

  pub at-cut_same : (xs : List A) (k : K) → at same key (cut same key k xs) k ≡ None
  unfolding at cut
  at-cut_same [] k = refl
  at-cut_same (y ∷ ys) k = elim (cases (key y) k) [
    | inl is ↦ rw is.0 (at-cut_same ys k)
    | inr not ↦ rw (not.0, not.0) (at-cut_same ys k)
  ]

  pub at-cut_other : (xs : List A) (c k : K) → c ≢ k → at same key (cut same key c xs) k ≡ at same key xs k
  unfolding at cut
  at-cut_other [] c k ne = refl
  at-cut_other (y ∷ ys) c k ne = elim (cases (key y) c) [
    | inl is ↦ elim (cases (key y) k)
        [ inl i ↦ absurd (ne (sym is.1 ∙ i.1)) | inr not ↦ rw (is.0, not.0) (at-cut_other ys c k ne) ]
    | inr not ↦ rw not.0 (ap (cond (same (key y) k) (Some y)) (at-cut_other ys c k ne))
  ]

  -- what is found after a put is what was put, or was there
  pub put_found : (x : A) (xs : List A) {k : K} {y : A} → at same key (put same key x xs) k ≡ Some y
      → ((key x ≡ k) × (x ≡ y)) ⊎ ((key x ≢ k) × (at same key xs k ≡ Some y))
  put_found x xs {k} {y} h = elim (cases (key x) k) [
    | inl is ↦ let e : Some x ≡ Some y = sym (at-put_same x xs) ∙ (rw is.1 h) in inl (is.1, cc)
    | inr not ↦ inr (not.1, sym (at-put_other x xs k not.1) ∙ h)
  ]

  pub cut_found : (c : K) (xs : List A) {k : K} {y : A} → at same key (cut same key c xs) k ≡ Some y
      → (c ≢ k) × (at same key xs k ≡ Some y)
  cut_found c xs {k} {y} h = elim (cases c k) [
    | inl is ↦ let e : None ≡ Some y = sym (at-cut_same xs c) ∙ (ap (at same key (cut same key c xs)) is.1 ∙ h) in cc
    | inr not ↦ (not.1, sym (at-cut_other xs c k not.1) ∙ h)
  ]

  pub Each-put : (P : A → Type 0) (x : A) (xs : List A) → P x → ((k : K) (y : A) → at same key xs k ≡ Some y → P y)
      → (k : K) (y : A) → at same key (put same key x xs) k ≡ Some y → P y
  Each-put P x xs new old k y h = elim (put_found x xs h) [ inl is ↦ subst P is.1 new | inr was ↦ old k y was.1 ]

  pub Each-cut : (P : A → Type 0) (c : K) (xs : List A) → ((k : K) (y : A) → at same key xs k ≡ Some y → P y)
      → (k : K) (y : A) → at same key (cut same key c xs) k ≡ Some y → P y
  Each-cut P c xs old k y h = old k y (cut_found c xs h).1

  pub some_put : (x : A) (xs : List A) (k : K) → IsSome (at same key xs k) → IsSome (at same key (put same key x xs) k)
  some_put x xs k h = elim (cases (key x) k) [
    | inl is ↦ rw (← is.1, at-put_same x xs) refl
    | inr not ↦ rw (at-put_other x xs k not.1) h
  ]

-- what is found after each record was changed, and kept its key
pub map_found : {K A : Type 0} (same : K → K → Bool) (key : A → K) (f : A → A) → ((x : A) → key (f x) ≡ key x) → (xs :
    List A) (k : K) (y : A) → at same key (map f xs) k ≡ Some y → (x : A) × (at same key xs k ≡ Some x) × (f x ≡ y)
unfolding at
map_found same key f keeps [] k y h = cc
map_found same key f keeps (x ∷ xs) k y h = by (same (key x) k) (map_found same key f keeps xs k y)
    (rw (keeps x) at h) where
      by : (b : Bool) → (at same key (map f xs) k ≡ Some y → (o : _) × (at same key xs k ≡ Some o) × (f o ≡ y))
          → cond b (Some (f x)) (at same key (map f xs) k) ≡ Some y
          → (o : _) × (cond b (Some x) (at same key xs k) ≡ Some o) × (f o ≡ y)
      by true rest e = (x, refl, cc)
      by false rest e = rest e

-- what is found at a place of a list after a write
pub set_found : {A : Type 0} (xs : List A) (i : ℕ) (p : A) (k : ℕ) (q : A) → slice_get (slice_set xs i p) k ≡ Some q
    → ((k ≡ i) × (q ≡ p)) ⊎ (slice_get xs k ≡ Some q)
set_found [] i p k q h = cc
set_found (x ∷ xs) zero p zero q h = inl (refl, cc)
set_found (x ∷ xs) zero p (suc k) q h = inr h
set_found (x ∷ xs) (suc i) p zero q h = inr h
set_found (x ∷ xs) (suc i) p (suc k) q h =
    elim (set_found xs i p k q h) [ inl is ↦ inl (ap suc is.0, is.1) | inr was ↦ inr was ]

-- what was found is found changed
pub map_at : {K A : Type 0} (same : K → K → Bool) (key : A → K) (f : A → A) → ((x : A) → key (f x) ≡ key x)
    → (xs : List A) (k : K) (x : A) → at same key xs k ≡ Some x → at same key (map f xs) k ≡ Some (f x)
unfolding at
map_at same key f keeps [] k x h = cc
map_at {A = A} same key f keeps (y ∷ ys) k x h =
    rw (keeps y) (by (same (key y) k) h (map_at same key f keeps ys k x)) where
      by : (b : Bool) → cond b (Some y) (at same key ys k) ≡ Some x → (at same key ys k ≡ Some x
          → at same key (map f ys) k ≡ Some (f x)) → cond b (Some (f y)) (at same key (map f ys) k) ≡ Some (f x)
      by true e rest = let is : y ≡ x = cc in ap (λ (z : A). Some (f z)) is
      by false e rest = rest e

pub set_else : {A : Type 0} (xs : List A) (i : ℕ) (p : A) (k : ℕ) → k ≢ i
    → slice_get (slice_set xs i p) k ≡ slice_get xs k
set_else [] i p k ne = refl
set_else (x ∷ xs) zero p zero ne = absurd (ne refl)
set_else (x ∷ xs) zero p (suc k) ne = refl
set_else (x ∷ xs) (suc i) p zero ne = refl
set_else (x ∷ xs) (suc i) p (suc k) ne = set_else xs i p k (λ e. ne (ap suc e))

pub set_here : {A : Type 0} (xs : List A) (i : ℕ) (p q : A) → slice_get xs i ≡ Some q
    → slice_get (slice_set xs i p) i ≡ Some p
set_here [] i p q h = cc
set_here (x ∷ xs) zero p q h = refl
set_here (x ∷ xs) (suc i) p q h = set_here xs i p q h

-- a record that stands in the list is found, or one with its key
pub at-some : {K A : Type 0} (same : K → K → Bool) (decides : (x y : K) → Decides (same x y) (x ≡ y)) (key : A → K)
    (xs : List A) (i : ℕ) (x : A)
    → slice_get xs i ≡ Some x → (y : A) × (at same key xs (key x) ≡ Some y)
unfolding at
at-some same decides key [] i x h = cc
at-some {A = A} same decides key (y ∷ ys) i x h =
    by (same (key y) (key x)) refl i h (λ k e. at-some same decides key ys k x e) where
      by : (b : Bool) → same (key y) (key x) ≡ b → (i : ℕ) → slice_get (y ∷ ys) i ≡ Some x
          → ((k : ℕ) → slice_get ys k ≡ Some x → (z : A) × (at same key ys (key x) ≡ Some z))
          → (z : A) × (cond b (Some y) (at same key ys (key x)) ≡ Some z)
      by true e i h rest = (y, refl)
      by false e (suc i) h rest = rest i h
      by false e zero h rest = let is : y ≡ x = cc in
          let t : same (key y) (key x) ≡ true = (decides (key y) (key x)).1 (ap key is) in cc

-- what is found stands at a place
pub at-place : {K A : Type 0} (same : K → K → Bool) (key : A → K) (xs : List A) (k : K) (x : A)
    → at same key xs k ≡ Some x → (i : ℕ) × (slice_get xs i ≡ Some x)
unfolding at
at-place same key [] k x h = cc
at-place {A = A} same key (y ∷ ys) k x h = by (same (key y) k) h (at-place same key ys k x) where
  by : (b : Bool) → cond b (Some y) (at same key ys k) ≡ Some x
      → (at same key ys k ≡ Some x → (i : ℕ) × (slice_get ys i ≡ Some x)) → (i : ℕ) × (slice_get (y ∷ ys) i ≡ Some x)
  by true e rest = (0, e)
  by false e rest = let (i, at_i) = rest e in (suc i, at_i)
