-- What is put or cut is undone by what its key had before.
use Rattle.std.proofs.Common.{◌≡◌, ◌∙◌, List, [], ◌∷◌, Option, Some, None, refl, sym, ap, subst}
use Rattle.std.specs.Cmp.{IsTotalOrder}
use Rattle.std.specs.List.Sorted.{IsStrictlySortedBy}
use Rattle.std.specs.Ordering.{match_ordering, ordering_reverse}
use Rattle.std.specs.declared.cmp.Ordering.{Ordering}
use Rattle.std.specs.declared.cmp.Ordering.TheVariants.{Less, Equal, Greater}
use Rattle.keyed_table.specs.Lists.{IsSorted, at, put, cut, restored}
use Rattle.keyed_table.proofs.SortedPlaces.{flipped}

module _ {A K : Type 0} (order : K → K → Ordering) (key : A → K) (total : IsTotalOrder order) where
  level : (o : Ordering) → o ≡ ordering_reverse o → o ≡ Equal
  level Less e = cc
  level Equal e = refl
  level Greater e = cc

  itself : (k : K) → order k k ≡ Equal
  itself k = level (order k k) (total.antisymm k k)

  -- the record of a key has it
  at_key : (k : K) (xs : List A) (x : A) → at order key xs k ≡ Some x → order (key x) k ≡ Equal
  at_key k [] x e = cc
  at_key k (y ∷ ys) x e = by (order (key y) k) refl (at_key k ys x) e
    where
      by : (o : Ordering) → order (key y) k ≡ o → (at order key ys k ≡ Some x → order (key x) k ≡ Equal)
          → match_ordering o (at order key ys k) (Some y) None ≡ Some x → order (key x) k ≡ Equal
      by Less is more e' = more e'
      by Equal is more e' = let same : y ≡ x = cc in subst (λ (z : A). order (key z) k ≡ Equal) same is
      by Greater is more e' = cc

  -- two records of one key compare alike with a third
  alike : (j k n : K) (o : Ordering) → order j k ≡ Equal → order n k ≡ o → order n j ≡ o
  alike j k n o same is =
      total.antisymm n j ∙ ap ordering_reverse (total.congr j k n same) ∙ sym (total.antisymm n k) ∙ is

  put_over : (x old : A) (xs : List A) → at order key xs (key x) ≡ Some old
      → put order key old (put order key x xs) ≡ xs
  put_over x old [] e = cc
  put_over x old (y ∷ ys) e = by (order (key y) (key x)) refl (put_over x old ys) e
    where
      had : order (key old) (key x) ≡ Equal
      had = at_key (key x) (y ∷ ys) old e

      by : (o : Ordering) → order (key y) (key x) ≡ o → (at order key ys (key x) ≡ Some old → put order key old
          (put order key x ys) ≡ ys) → match_ordering o (at order key ys (key x)) (Some y) None ≡ Some old
          → put order key old (match_ordering o (y ∷ put order key x ys) (x ∷ ys) (x ∷ y ∷ ys)) ≡ y ∷ ys
      by Less is more e' =
          ap (λ (o : Ordering). match_ordering o (y ∷ put order key old (put order key x ys)) (old ∷ put order key x ys)
          (old ∷ y ∷ put order key x ys))
          (alike (key old) (key x) (key y) Less had is)
          ∙ ap (λ (l : List A). y ∷ l) (more e')
      by Equal is more e' =
          let same : y ≡ old = cc in
          ap (λ (o : Ordering). match_ordering o (x ∷ put order key old ys) (old ∷ ys) (old ∷ x ∷ ys))
          (flipped order key total (key old) (key x) Equal had)
          ∙ ap (λ (z : A). z ∷ ys) (sym same)
      by Greater is more e' = cc

  put_new : (x : A) (xs : List A) → at order key xs (key x) ≡ None → cut order key (key x) (put order key x xs) ≡ xs
  put_new x [] e = ap (λ (o : Ordering). match_ordering o (x ∷ []) [] (x ∷ [])) (itself (key x))
  put_new x (y ∷ ys) e = by (order (key y) (key x)) refl (put_new x ys) e
    where
      by : (o : Ordering) → order (key y) (key x) ≡ o → (at order key ys (key x) ≡ None → cut order key (key x)
          (put order key x ys) ≡ ys) → match_ordering o (at order key ys (key x)) (Some y) None ≡ None
          → cut order key (key x) (match_ordering o (y ∷ put order key x ys) (x ∷ ys) (x ∷ y ∷ ys)) ≡ y ∷ ys
      by Less is more e' =
          ap (λ (o : Ordering). match_ordering o (y ∷ cut order key (key x) (put order key x ys)) (put order key x ys)
          (y ∷ put order key x ys)) is
          ∙ ap (λ (l : List A). y ∷ l) (more e')
      by Equal is more e' = cc
      by Greater is more e' = ap (λ (o : Ordering). match_ordering o (x ∷ cut order key (key x) (y ∷ ys)) (y ∷ ys)
          (x ∷ y ∷ ys)) (itself (key x))

  cut_none : (k : K) (xs : List A) → at order key xs k ≡ None → cut order key k (cut order key k xs) ≡ xs
  cut_none k [] e = refl
  cut_none k (y ∷ ys) e = by (order (key y) k) refl (cut_none k ys) e
    where
      by : (o : Ordering) → order (key y) k ≡ o → (at order key ys k ≡ None → cut order key k (cut order key k ys) ≡ ys)
          → match_ordering o (at order key ys k) (Some y) None ≡ None
          → cut order key k (match_ordering o (y ∷ cut order key k ys) ys (y ∷ ys)) ≡ y ∷ ys
      by Less is more e' =
          ap (λ (o : Ordering). match_ordering o (y ∷ cut order key k (cut order key k ys)) (cut order key k ys)
          (y ∷ cut order key k ys)) is
          ∙ ap (λ (l : List A). y ∷ l) (more e')
      by Equal is more e' = cc
      by Greater is more e' = ap (λ (o : Ordering). match_ordering o (y ∷ cut order key k ys) ys (y ∷ ys)) is

  -- a record below all goes in front
  put_front : (y : A) (ys : List A) → IsSorted order key (y ∷ ys) → put order key y ys ≡ y ∷ ys
  unfolding IsStrictlySortedBy
  put_front y [] h = refl
  put_front y (z ∷ zs) h =
      ap (λ (o : Ordering). match_ordering o (z ∷ put order key y zs) (y ∷ zs) (y ∷ z ∷ zs))
      (flipped order key total (key y) (key z) Less h.0.0)

  cut_some : (k : K) (old : A) (xs : List A) → IsSorted order key xs → at order key xs k ≡ Some old
      → put order key old (cut order key k xs) ≡ xs
  unfolding IsStrictlySortedBy
  cut_some k old [] h e = cc
  cut_some k old (y ∷ ys) h e = by (order (key y) k) refl (cut_some k old ys h.1) e
    where
      had : order (key old) k ≡ Equal
      had = at_key k (y ∷ ys) old e

      by : (o : Ordering) → order (key y) k ≡ o → (at order key ys k ≡ Some old
          → put order key old (cut order key k ys) ≡ ys) → match_ordering o (at order key ys k) (Some y) None ≡ Some old
          → put order key old (match_ordering o (y ∷ cut order key k ys) ys (y ∷ ys)) ≡ y ∷ ys
      by Less is more e' =
          ap (λ (o : Ordering). match_ordering o (y ∷ put order key old (cut order key k ys)) (old ∷ cut order key k ys)
          (old ∷ y ∷ cut order key k ys))
          (alike (key old) k (key y) Less had is)
          ∙ ap (λ (l : List A). y ∷ l) (more e')
      by Equal is more e' =
          let same : y ≡ old = cc in
          ap (λ (z : A). put order key z ys) (sym same) ∙ put_front y ys h
      by Greater is more e' = cc

  pub put_undone : (x : A) (xs : List A)
      → restored order key (key x) (at order key xs (key x)) (put order key x xs) ≡ xs
  put_undone x xs = by (at order key xs (key x)) refl
    where
      by : (o : Option A) → at order key xs (key x) ≡ o → restored order key (key x) o (put order key x xs) ≡ xs
      by None e = put_new x xs e
      by (Some old) e = put_over x old xs e

  pub cut_undone : (k : K) (xs : List A) → IsSorted order key xs
      → restored order key k (at order key xs k) (cut order key k xs) ≡ xs
  cut_undone k xs h = by (at order key xs k) refl
    where
      by : (o : Option A) → at order key xs k ≡ o → restored order key k o (cut order key k xs) ≡ xs
      by None e = cut_none k xs e
      by (Some old) e = cut_some k old xs h e

  pub put_back : (x : A) (xs new : List A) (before : Option A) → before ≡ at order key xs (key x)
      → new ≡ put order key x xs
      → restored order key (key x) before new ≡ xs
  put_back x xs new before had made = rw (had, made) (put_undone x xs)

  pub cut_back : (k : K) (xs new : List A) (before : Option A) → IsSorted order key xs → before ≡ at order key xs k
      → new ≡ cut order key k xs → restored order key k before new ≡ xs
  cut_back k xs new before h had made = rw (had, made) (cut_undone k xs h)
