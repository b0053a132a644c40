-- A binary search ends at a key's place, and what stands, is put and is cut there.
use Rattle.std.proofs.Common.{◌≡◌, ◌∙◌, ℕ, zero, suc, ◌+◌, ◌<◌, ◌≤◌, List, [], ◌∷◌, length, get_or, map, refl, ap, sym}
use Rattle.std.proofs.Common.{Result, Ok, Err, Option, Some, None, slice_get, insert, remove, slice_set, arith}
use Rattle.std.proofs.lemmas.List.Sorted.{searchable_from_sorted}
use Rattle.std.specs.Cmp.{IsTotalOrder}
use Rattle.std.specs.List.{AllByRecursion}
use Rattle.std.specs.List.Sorted.{IsStrictlySortedBy, IsSearchInRange, IsBinarySearchResult, IsNonDecreasingBy}
use Rattle.std.specs.Ordering.{match_ordering, ordering_index, ordering_reverse, is_lt}
use Rattle.std.specs.declared.cmp.Ordering.{Ordering}
use Rattle.std.specs.declared.cmp.Ordering.TheVariants.{Less, Equal, Greater}
use Rattle.keyed_table.specs.Lists.{IsSorted, at, put, cut, place, one_further}

module _ {A K : Type 0} (order : K → K → Ordering) (key : A → K) (total : IsTotalOrder order) where
  pub flipped : (a b : K) (o : Ordering) → order a b ≡ o → order b a ≡ ordering_reverse o
  flipped a b o is = total.antisymm b a ∙ ap ordering_reverse is

  -- each record behind one that is below all is above it
  above_at : (k : K) (xs : List A) (i : ℕ) (d : A) → AllByRecursion (λ y. order k y ≡ Less) (map key xs) → i < length xs
      → order k (key (get_or xs i d)) ≡ Less
  above_at k [] i d all l = absurd (omega arith)
  above_at k (x ∷ xs) zero d all l = all.0
  above_at k (x ∷ xs) (suc i) d all l = above_at k xs i d all.1 (omega arith)

  far : (xs : List A) (i j : ℕ) (d : A) → IsSorted order key xs → i < j → j < length xs
      → order (key (get_or xs i d)) (key (get_or xs j d)) ≡ Less
  unfolding IsStrictlySortedBy
  far [] i j d h a l = absurd (omega arith)
  far (x ∷ xs) i zero d h a l = absurd (omega arith)
  far (x ∷ xs) zero (suc j) d h a l = above_at (key x) xs j d h.0 (omega arith)
  far (x ∷ xs) (suc i) (suc j) d h a l = far xs i j d h.1 (omega arith) (omega arith)

  rises : (k : K) (xs : List A) → IsSorted order key xs
      → IsNonDecreasingBy (λ (x : A). ordering_index (order (key x) k)) xs
  rises k xs h = searchable_from_sorted total key xs k
      (λ i d a l. ap is_lt (flipped (key (get_or xs i d)) (key (get_or xs (i + 1) d)) Less
      (far xs i (i + 1) d h (omega arith) (omega arith))))

  abbrev placed : Ordering → Result ℕ ℕ → Result ℕ ℕ
  placed o r = match_ordering o (one_further r) (Ok 0) (Err 0)

  place_at : (k : K) (xs : List A) (i : ℕ) → IsSorted order key xs → i < length xs
      → ((d : A) → order (key (get_or xs i d)) k ≡ Equal) → place order key xs k ≡ Ok i
  unfolding IsStrictlySortedBy
  place_at k [] i h l is = absurd (omega arith)
  place_at k (x ∷ xs) zero h l is = ap (λ o. placed o (place order key xs k)) (is x)
  place_at k (x ∷ xs) (suc i) h l is =
      let this : K = key (get_or xs i x) in
      let below : order (key x) this ≡ Less = above_at (key x) xs i x h.0 (omega arith) in
      let above : order this (key x) ≡ Greater = flipped (key x) this Less below in
      let earlier : order k (key x) ≡ Greater = sym (total.congr this k (key x) (is x)) ∙ above in
      let later : order (key x) k ≡ Less = flipped k (key x) Greater earlier in
      ap (λ o. placed o (place order key xs k)) later ∙ ap one_further (place_at k xs i h.1 (omega arith) is)

  place_gap : (k : K) (xs : List A) (i : ℕ) → ((n : ℕ) (d : A) → n < i → order (key (get_or xs n d)) k ≡ Less)
      → ((n : ℕ) (d : A) → i ≤ n → n < length xs → order (key (get_or xs n d)) k ≡ Greater) → i ≤ length xs
      → place order key xs k ≡ Err i
  place_gap k [] i low high l = ap Err (omega arith)
  place_gap k (x ∷ xs) zero low high l = ap (λ o. placed o (place order key xs k))
      (high 0 x (omega arith) (omega arith))
  place_gap k (x ∷ xs) (suc i) low high l =
      ap (λ o. placed o (place order key xs k)) (low 0 x (omega arith))
      ∙ ap one_further (place_gap k xs i (λ n d a. low (suc n) d (omega arith))
      (λ n d a b. high (suc n) d (omega arith) (omega arith)) (omega arith))

  pub place_found : (k : K) (xs : List A) (r : Result ℕ ℕ) → IsSorted order key xs → IsSearchInRange r (length xs)
      → IsBinarySearchResult (λ (x : A). order (key x) k) xs r → r ≡ place order key xs k
  place_found k xs (Ok i) h l is = sym (place_at k xs i h l is)
  place_found k xs (Err i) h l parted =
      let parts = parted (rises k xs h) in
      sym (place_gap k xs i (λ n d a. parts.0 n d (omega arith) a) (λ n d a b. parts.1 n d a b) l)

  -- ---- what stands there

  abbrev pub at_place : Result ℕ ℕ → List A → Option A
  at_place (Ok i) xs = slice_get xs i
  at_place (Err i) xs = None

  at_further : (r : Result ℕ ℕ) (x : A) (xs : List A) → at_place (one_further r) (x ∷ xs) ≡ at_place r xs
  at_further (Ok i) x xs = refl
  at_further (Err i) x xs = refl

  pub at_is : (k : K) (xs : List A) → at order key xs k ≡ at_place (place order key xs k) xs
  at_is k [] = refl
  at_is k (x ∷ xs) = by (order (key x) k) (at_is k xs)
    where
      by : (o : Ordering) → at order key xs k ≡ at_place (place order key xs k) xs
          → match_ordering o (at order key xs k) (Some x) None ≡ at_place (placed o (place order key xs k)) (x ∷ xs)
      by Less more = more ∙ sym (at_further (place order key xs k) x xs)
      by Equal more = refl
      by Greater more = refl

  -- ---- what is put there

  abbrev pub put_place : Result ℕ ℕ → A → List A → List A
  put_place (Ok i) x xs = slice_set xs i x
  put_place (Err i) x xs = insert xs i x

  put_further : (r : Result ℕ ℕ) (x y : A) (ys : List A) → put_place (one_further r) x (y ∷ ys) ≡ y ∷ put_place r x ys
  put_further (Ok i) x y ys = refl
  put_further (Err i) x y ys = refl

  pub put_is : (x : A) (xs : List A) → put_place (place order key xs (key x)) x xs ≡ put order key x xs
  put_is x [] = refl
  put_is x (y ∷ ys) = by (order (key y) (key x)) (put_is x ys)
    where
      by : (o : Ordering) → put_place (place order key ys (key x)) x ys ≡ put order key x ys
          → put_place (placed o (place order key ys (key x))) x (y ∷ ys)
          ≡ match_ordering o (y ∷ put order key x ys) (x ∷ ys) (x ∷ y ∷ ys)
      by Less more = put_further (place order key ys (key x)) x y ys ∙ ap (λ (l : List A). y ∷ l) more
      by Equal more = refl
      by Greater more = refl

  -- ---- what is cut there

  abbrev pub cut_place : Result ℕ ℕ → List A → List A
  cut_place (Ok i) xs = remove xs i
  cut_place (Err i) xs = xs

  cut_further : (r : Result ℕ ℕ) (y : A) (ys : List A) → cut_place (one_further r) (y ∷ ys) ≡ y ∷ cut_place r ys
  cut_further (Ok i) y ys = refl
  cut_further (Err i) y ys = refl

  pub cut_is : (k : K) (xs : List A) → cut_place (place order key xs k) xs ≡ cut order key k xs
  cut_is k [] = refl
  cut_is k (y ∷ ys) = by (order (key y) k) (cut_is k ys)
    where
      by : (o : Ordering) → cut_place (place order key ys k) ys ≡ cut order key k ys
          → cut_place (placed o (place order key ys k)) (y ∷ ys) ≡ match_ordering o (y ∷ cut order key k ys) ys (y ∷ ys)
      by Less more = cut_further (place order key ys k) y ys ∙ ap (λ (l : List A). y ∷ l) more
      by Equal more = refl
      by Greater more = refl
