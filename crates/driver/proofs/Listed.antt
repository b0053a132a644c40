-- A table whose keys stand once: what is found at each place.
use Rattle.std.proofs.Common.{arith, ap, inl, inr, refl, subst, sym, ◌∙◌}
use Rattle.std.specs.Prelude.{Bool, Contains, Decides, List, Some, [], length, map, suc, true, zero, ℕ, ◌++◌, ◌+◌, ◌<◌}
use Rattle.std.specs.Prelude.{◌∷◌, ◌≡◌, ◌≤◌}
use Rattle.std.proofs.Common.{get_or, take}
use Rattle.std.proofs.lemmas.List.{map-append, take_all, take_more}
use Rattle.heat_plan.specs.Tables.{at}
use Rattle.next_laws.proofs.Listings.{cons_cases, in_head, in_tail, no_member}
use Rattle.history_laws.proofs.tables.Tables.{cases}
use Rattle.bound_laws.specs.Counts.{AreOnce}

module _ {K A : Type 0} (same : K → K → Bool) (decides : (x y : K) → Decides (same x y) (x ≡ y)) (key : A → K) where
  pub in_keys : (xs : List A) (i : ℕ) (d : A) → i < length xs → Contains (map key xs) (key (get_or xs i d))
  in_keys [] i d lt = absurd (omega (arith, lt))
  in_keys (x ∷ xs) zero d lt = in_head (map key xs) (key x)
  in_keys (x ∷ xs) (suc i) d lt = in_tail (map key xs) (key x) (key (get_or xs i d))
      (in_keys xs i d (omega (arith, lt)))

  -- the record at a place is that of its key
  pub found_at : (xs : List A) (i : ℕ) (d : A) → i < length xs → AreOnce (map key xs)
      → at same key xs (key (get_or xs i d)) ≡ Some (get_or xs i d)
  unfolding at
  found_at [] i d lt once = absurd (omega (arith, lt))
  found_at (x ∷ xs) zero d lt once = rw ((decides (key x) (key x)).1 refl) refl
  found_at (x ∷ xs) (suc i) d lt once = elim (cases same decides key (key x) (key (get_or xs i d))) [
    | inl is ↦ absurd (once.0 (subst (Contains (map key xs)) (sym is.1) (in_keys xs i d (omega (arith, lt)))))
    | inr not ↦ rw not.0 (found_at xs i d (omega (arith, lt)) once.1)
  ]

  -- and its key isn't one of those before it
  pub new_at : (xs : List A) (i : ℕ) (d : A) → i < length xs → AreOnce (map key xs)
      → ¬ Contains (map key (take i xs)) (key (get_or xs i d))
  new_at [] i d lt once c = absurd (omega (arith, lt))
  new_at (x ∷ xs) zero d lt once c = no_member (key x) c
  new_at (x ∷ xs) (suc i) d lt once c = elim (cons_cases (map key (take i xs)) (key x) (key (get_or xs i d)) c) [
    | inl is ↦ once.0 (subst (Contains (map key xs)) is (in_keys xs i d (omega (arith, lt))))
    | inr later ↦ new_at xs i d (omega (arith, lt)) once.1 later
  ]

  -- what is found is listed
  pub listed : (xs : List A) (k : K) (x : A) → at same key xs k ≡ Some x → Contains (map key xs) k
  unfolding at
  listed [] k x found = cc
  listed (y ∷ ys) k x found = elim (cases same decides key (key y) k) [
    | inl is ↦ subst (Contains (key y ∷ map key ys)) is.1 (in_head (map key ys) (key y))
    | inr not ↦ in_tail (map key ys) (key y) k (listed ys k x (rw not.0 at found))
  ]

  -- the keys up to a place, and one more
  pub keys_more : (xs : List A) (i : ℕ) (d : A) → i < length xs
      → map key (take (i + 1) xs) ≡ map key (take i xs) ++ key (get_or xs i d) ∷ []
  keys_more xs i d lt = ap (map key) (take_more xs i d lt) ∙ map-append key (take i xs) (get_or xs i d ∷ [])

  -- of a list that is the table's
  pub found_here : (xs ys : List A) (i : ℕ) (x : A) → xs ≡ ys → i < length xs → x ≡ get_or xs i x → AreOnce (map key ys)
      → at same key ys (key x) ≡ Some x
  found_here xs ys i x is lt place once =
      subst (λ (zs : List A). at same key zs (key x) ≡ Some x) is
      (subst (λ (y : A). at same key xs (key y) ≡ Some y) (sym place)
      (found_at xs i x lt (subst (λ (zs : List A). AreOnce (map key zs)) (sym is) once)))

  pub new_here : (xs ys : List A) (i : ℕ) (x : A) → xs ≡ ys → i < length xs → x ≡ get_or xs i x → AreOnce (map key ys)
      → ¬ Contains (map key (take i xs)) (key x)
  new_here xs ys i x is lt place once =
      subst (λ (y : A). ¬ Contains (map key (take i xs)) (key y)) (sym place)
      (new_at xs i x lt (subst (λ (zs : List A). AreOnce (map key zs)) (sym is) once))

  pub keys_here : (xs : List A) (i : ℕ) (x : A) → i < length xs → x ≡ get_or xs i x
      → map key (take i xs) ++ key x ∷ [] ≡ map key (take (i + 1) xs)
  keys_here xs i x lt place = sym (keys_more xs i x lt ∙ ap (λ (y : A). map key (take i xs) ++ key y ∷ []) (sym place))

  -- at its end
  pub keys_all : (xs ys : List A) (i : ℕ) → xs ≡ ys → length xs ≤ i → map key (take i xs) ≡ map key ys
  keys_all xs ys i is le = ap (map key) (take_all i xs le ∙ is)
