-- What a list has behind its head, and in a list that rises by a key what stands behind what.
use Rattle.std.proofs.Common.{◌≡◌, ◌⊎◌, inl, inr, ◌<◌, ℕ, zero, suc, List, [], ◌∷◌, map, refl, sym, arith}
use Rattle.std.specs.Prelude.{Contains}
use Rattle.dep_graph.specs.Lists.{IsRising}

module _ {A : Type 0} where
  pub no_member : (n : A) → Contains [] n → ⊥
  no_member n (i, lt, e) = omega (arith, lt)

  pub cons_cases : (xs : List A) (y x : A) → Contains (y ∷ xs) x → (x ≡ y) ⊎ Contains xs x
  cons_cases xs y x (zero, lt, e) = inl (sym e)
  cons_cases xs y x (suc k, lt, e) = inr (k, omega arith, e)

  pub in_tail : (xs : List A) (y x : A) → Contains xs x → Contains (y ∷ xs) x
  in_tail xs y x (k, lt, e) = (suc k, omega arith, e)

  pub in_head : (xs : List A) (x : A) → Contains (x ∷ xs) x
  in_head xs x = (0, omega arith, refl)

  module _ (key : A → ℕ) where
    pub rising-tail : (x : A) (xs : List A) → IsRising (map key (x ∷ xs)) → IsRising (map key xs)
    rising-tail x xs up i j d lt inside = up (suc i) (suc j) d (omega (arith, lt)) (omega (arith, inside))

    pub below : (x : A) (xs : List A) → IsRising (map key (x ∷ xs)) → (y : A) → Contains xs y → key x < key y
    below x [] up y c = absurd (no_member y c)
    below x (z ∷ zs) up y c =
        let h : key x < key z = up 0 1 0 (omega arith) (omega arith) in
        let later : Contains zs y → key z < key y = below z zs (rising-tail x (z ∷ zs) up) y in
        elim (cons_cases zs z y c) [ inl e ↦ rw e h | inr more ↦ omega (arith, h, later more) ]
