-- A list that rises by a key is one by what it has.
use Rattle.std.proofs.Common.{◌≡◌, ◌⊎◌, inl, inr, ◌<◌, ℕ, zero, suc, List, [], ◌∷◌, map, map-id, refl, sym, ap, subst}
use Rattle.std.proofs.Common.{arith}
use Rattle.std.specs.Prelude.{Contains}
use Rattle.dep_graph.specs.Lists.{IsLeast, IsRising, ListsAll}

module _ {A : Type 0} where
  pub no_member : (n : A) → Contains [] n → ⊥
  no_member n (i, lt, e) = omega (arith, lt)

  pub cons_cases : (xs : List A) (y x : A) → Contains (y ∷ xs) x → (x ≡ y) ⊎ Contains xs x
  cons_cases xs y x (zero, lt, e) = inl (sym e)
  cons_cases xs y x (suc k, lt, e) = inr (k, omega arith, e)

  pub in_tail : (xs : List A) (y x : A) → Contains xs x → Contains (y ∷ xs) x
  in_tail xs y x (k, lt, e) = (suc k, omega arith, e)

  pub in_head : (xs : List A) (x : A) → Contains (x ∷ xs) x
  in_head xs x = (0, omega arith, refl)

  module _ (key : A → ℕ) where
    rising-tail : (x : A) (xs : List A) → IsRising (map key (x ∷ xs)) → IsRising (map key xs)
    rising-tail x xs up i j d lt inside = up (suc i) (suc j) d (omega (arith, lt)) (omega (arith, inside))

    below : (x : A) (xs : List A) → IsRising (map key (x ∷ xs)) → (y : A) → Contains xs y → key x < key y
    below x [] up y c = absurd (no_member y c)
    below x (z ∷ zs) up y c =
        let h : key x < key z = up 0 1 0 (omega arith) (omega arith) in
        let later : Contains zs y → key z < key y = below z zs (rising-tail x (z ∷ zs) up) y in
        elim (cons_cases zs z y c) [ inl e ↦ rw e h | inr more ↦ omega (arith, h, later more) ]

    -- what the one tail has the other has, where the heads are equal
    tails : (x : A) (xs ys : List A) → IsRising (map key (x ∷ xs))
        → ((n : A) → Contains (x ∷ xs) n → Contains (x ∷ ys) n)
        → (n : A) → Contains xs n → Contains ys n
    tails x xs ys up there n c = elim (cons_cases ys x n (there n (in_tail xs x n c))) [
      | inl e ↦ let less : key x < key n = below x xs up n c in let same : key n ≡ key x = ap key e in
          absurd (omega (arith, less, same))
      | inr later ↦ later
    ]

    heads : (x y : A) (xs ys : List A) → IsRising (map key (x ∷ xs)) → IsRising (map key (y ∷ ys)) → Contains (y ∷ ys) x
        → Contains (x ∷ xs) y
        → x ≡ y
    heads x y xs ys up vp in_y in_x = elim (cons_cases ys y x in_y) [
      | inl e ↦ e
      | inr later ↦ let less : key y < key x = below y ys vp x later in elim (cons_cases xs x y in_x) [
        | inl e ↦ sym e
        | inr more ↦ let lt : key x < key y = below x xs up y more in absurd (omega (arith, less, lt))
      ]
    ]

    pub rising_one : (xs ys : List A) → IsRising (map key xs) → IsRising (map key ys)
        → ((n : A) → Contains xs n → Contains ys n)
        → ((n : A) → Contains ys n → Contains xs n) → xs ≡ ys
    rising_one [] [] up vp there back = refl
    rising_one [] (y ∷ ys) up vp there back = absurd (no_member y (back y (in_head ys y)))
    rising_one (x ∷ xs) [] up vp there back = absurd (no_member x (there x (in_head xs x)))
    rising_one (x ∷ xs) (y ∷ ys) up vp there back =
        let e : x ≡ y = heads x y xs ys up vp (there x (in_head xs x)) (back y (in_head ys y)) in
        let vp' : IsRising (map key (x ∷ ys)) = subst (λ (z : A). IsRising (map key (z ∷ ys))) (sym e) vp in
        let there' : (n : A) → Contains (x ∷ xs) n → Contains (x ∷ ys) n =
        subst (λ (z : A). (n : A) → Contains (x ∷ xs) n → Contains (z ∷ ys) n) (sym e) there in
        let back' : (n : A) → Contains (x ∷ ys) n → Contains (x ∷ xs) n =
        subst (λ (z : A). (n : A) → Contains (z ∷ ys) n → Contains (x ∷ xs) n) (sym e) back in
        let rest : xs ≡ ys = rising_one xs ys (rising-tail x xs up) (rising-tail x ys vp') (tails x xs ys up there')
        (tails x ys xs vp' back') in
        cc

pub listing_one : (Is : ℕ → Type 0) (xs ys : List ℕ) → ListsAll Is xs → ListsAll Is ys → xs ≡ ys
listing_one Is xs ys h i =
    rising_one (λ (n : ℕ). n) xs ys (subst IsRising (sym (map-id xs)) h.rising)
    (subst IsRising (sym (map-id ys)) i.rising)
    (λ n c. (i.each n).1 ((h.each n).0 c)) (λ n c. (h.each n).1 ((i.each n).0 c))

pub least_one : (Is : ℕ → Type 0) (n m : ℕ) → IsLeast Is n → IsLeast Is m → n ≡ m
least_one Is n m h i = omega (arith, h.least m i.is, i.least n h.is)
