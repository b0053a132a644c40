-- Tables whose keys stand once: what puts and cuts leave, and what puts make of a list one after another.
use Rattle.std.proofs.Common.{◌≡◌, ◌≢◌, inl, inr, Bool, true, false, cond, List, [], ◌∷◌, ◌++◌, Some, None, refl, sym, ap, ◌∙◌}
use Rattle.std.specs.Prelude.{Decides}
use Rattle.std.specs.List.{AllByRecursion}
use Rattle.heat_plan.specs.Tables.{at, cut, put}
use Rattle.history_laws.proofs.tables.Tables.{at-cut_other, at-put_other, cases}
use Rattle.state_images.specs.Formed.{HasKeysOnce}

module _ {K A : Type 0} (same : K → K → Bool) (decides : (x y : K) → Decides (same x y) (x ≡ y)) (key : A → K) where
  -- what is found nowhere in a list isn't at its head, nor behind it
  pub none_head : (y : A) (ys : List A) (k : K) → at same key (y ∷ ys) k ≡ None → (same (key y) k ≡ false) × (at same key ys k ≡ None)
  unfolding at
  none_head y ys k h = by (same (key y) k) refl h where
    by : (b : Bool) → same (key y) k ≡ b → cond b (Some y) (at same key ys k) ≡ None → (same (key y) k ≡ false) × (at same key ys k ≡ None)
    by true e n = cc
    by false e n = (e, n)

  pub none_cons : (y : A) (ys : List A) (k : K) → same (key y) k ≡ false → at same key ys k ≡ None → at same key (y ∷ ys) k ≡ None
  unfolding at
  none_cons y ys k e n = rw e n

  pub apart : (x y : K) → same x y ≡ false → x ≢ y
  apart x y e is = let t : same x y ≡ true = (decides x y).1 is in cc

  pub unlike : (x y : K) → x ≢ y → same x y ≡ false
  unlike x y ne = elim (cases same decides (λ (z : K). z) x y) [ inl is ↦ absurd (ne is.1) | inr not ↦ not.0 ]

  pub turned : (x y : K) → same x y ≡ false → same y x ≡ false
  turned x y e = unlike y x (λ is. apart x y e (sym is))

  pub once_put : (x : A) (xs : List A) → HasKeysOnce same key xs → HasKeysOnce same key (put same key x xs)
  unfolding at put
  once_put x [] h = (refl, tt)
  once_put x (y ∷ ys) h = elim (cases same decides key (key y) (key x)) [
    | inl is ↦ rw is.0 (rw (← is.1) h.0, h.1)
    | inr not ↦ rw not.0 (at-put_other same decides key x ys (key y) (λ e. not.1 (sym e)) ∙ h.0, once_put x ys h.1)
  ]

  pub once_cut : (c : K) (xs : List A) → HasKeysOnce same key xs → HasKeysOnce same key (cut same key c xs)
  unfolding at cut
  once_cut c [] h = tt
  once_cut c (y ∷ ys) h = elim (cases same decides key (key y) c) [
    | inl is ↦ rw is.0 (once_cut c ys h.1)
    | inr not ↦ rw not.0 (at-cut_other same decides key ys c (key y) (λ e. not.1 (sym e)) ∙ h.0, once_cut c ys h.1)
  ]

  -- a record of a new key goes behind all others
  pub put_new : (x : A) (xs : List A) → at same key xs (key x) ≡ None → put same key x xs ≡ xs ++ x ∷ []
  unfolding put
  put_new x [] h = refl
  put_new x (y ∷ ys) h = let (e, n) = none_head y ys (key x) h in rw e (ap (λ (zs : List A). y ∷ zs) (put_new x ys n))

  pub none_append : (xs ys : List A) (k : K) → at same key xs k ≡ None → at same key ys k ≡ None → at same key (xs ++ ys) k ≡ None
  none_append [] ys k h i = i
  none_append (x ∷ xs) ys k h i = let (e, n) = none_head x xs k h in none_cons x (xs ++ ys) k e (none_append xs ys k n i)

  none_nil : (k : K) → at same key [] k ≡ None
  unfolding at
  none_nil k = refl

  -- none of these has a key that stands already
  abbrev pub AreFree : List A → List A → Type 0
  AreFree there xs = AllByRecursion (λ (x : A). at same key there (key x) ≡ None) xs

  pub free_of_none : (xs : List A) → AreFree [] xs
  free_of_none [] = tt
  free_of_none (x ∷ xs) = (none_nil (key x), free_of_none xs)

  pub free_more : (there : List A) (x : A) (ys : List A) → AreFree there ys → at same key ys (key x) ≡ None → AreFree (there ++ x ∷ []) ys
  free_more there x [] f h = tt
  free_more there x (y ∷ ys) f h = let (e, n) = none_head y ys (key x) h in (
    none_append there (x ∷ []) (key y) f.0 (none_cons x [] (key y) (turned (key y) (key x) e) (none_nil (key y))),
    free_more there x ys f.1 n,
  )
