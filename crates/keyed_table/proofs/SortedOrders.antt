-- A list with a record put or cut still rises.
use Rattle.std.proofs.Common.{◌≡◌, ◌∙◌, List, [], ◌∷◌, map, refl}
use Rattle.std.specs.Cmp.{IsTotalOrder}
use Rattle.std.specs.List.{AllByRecursion}
use Rattle.std.specs.List.Sorted.{IsStrictlySortedBy}
use Rattle.std.specs.Ordering.{match_ordering}
use Rattle.std.specs.declared.cmp.Ordering.{Ordering}
use Rattle.std.specs.declared.cmp.Ordering.TheVariants.{Less, Equal, Greater}
use Rattle.keyed_table.specs.Lists.{IsSorted, put, cut}
use Rattle.keyed_table.proofs.SortedPlaces.{flipped}

module _ {A K : Type 0} (order : K → K → Ordering) (key : A → K) (total : IsTotalOrder order) where
  abbrev Below : K → List A → Type 0
  Below k xs = AllByRecursion (λ y. order k y ≡ Less) (map key xs)

  -- what is below one that is below all is below all
  below_all : (j k : K) (xs : List A) → order j k ≡ Less → Below k xs → Below j xs
  below_all j k [] h all = tt
  below_all j k (x ∷ xs) h all = (total.trans j k (key x) h all.0, below_all j k xs h all.1)

  same_below : (j k : K) (xs : List A) → order j k ≡ Equal → Below k xs → Below j xs
  same_below j k [] h all = tt
  same_below j k (x ∷ xs) h all = (total.congr j k (key x) h ∙ all.0, same_below j k xs h all.1)

  below_put : (k : K) (x : A) (ys : List A) → order k (key x) ≡ Less → Below k ys → Below k (put order key x ys)
  below_put k x [] h all = (h, tt)
  below_put k x (y ∷ ys) h all =
      elim (order (key y) (key x)) as (λ o. Below k (match_ordering o (y ∷ put order key x ys) (x ∷ ys) (x ∷ y ∷ ys)))
      [ Less ↦ (all.0, below_put k x ys h all.1) | Equal ↦ (h, all.1) | Greater ↦ (h, all) ]

  below_cut : (j k : K) (ys : List A) → Below j ys → Below j (cut order key k ys)
  below_cut j k [] all = tt
  below_cut j k (y ∷ ys) all =
      elim (order (key y) k) as (λ o. Below j (match_ordering o (y ∷ cut order key k ys) ys (y ∷ ys)))
      [ Less ↦ (all.0, below_cut j k ys all.1) | Equal ↦ all.1 | Greater ↦ all ]

  -- a record put behind a first one, over it, or before it
  put_at : (x y : A) (ys : List A) (o : Ordering) → order (key y) (key x) ≡ o → IsSorted order key (y ∷ ys)
      → IsSorted order key (put order key x ys)
      → IsSorted order key (match_ordering o (y ∷ put order key x ys) (x ∷ ys) (x ∷ y ∷ ys))
  unfolding IsStrictlySortedBy
  put_at x y ys Less is h more = (below_put (key y) x ys is h.0, more)
  put_at x y ys Equal is h more =
      (same_below (key x) (key y) ys (flipped order key total (key y) (key x) Equal is) h.0, h.1)
  put_at x y ys Greater is h more =
      let less : order (key x) (key y) ≡ Less = flipped order key total (key y) (key x) Greater is in
      ((less, below_all (key x) (key y) ys less h.0), h)

  pub sorted_put : (x : A) (xs : List A) → IsSorted order key xs → IsSorted order key (put order key x xs)
  unfolding IsStrictlySortedBy
  sorted_put x [] h = (tt, tt)
  sorted_put x (y ∷ ys) h = put_at x y ys (order (key y) (key x)) refl h (sorted_put x ys h.1)

  -- a record cut behind a first one, or that one
  cut_at : (k : K) (y : A) (ys : List A) (o : Ordering) → IsSorted order key (y ∷ ys)
      → IsSorted order key (cut order key k ys)
      → IsSorted order key (match_ordering o (y ∷ cut order key k ys) ys (y ∷ ys))
  unfolding IsStrictlySortedBy
  cut_at k y ys Less h more = (below_cut (key y) k ys h.0, more)
  cut_at k y ys Equal h more = h.1
  cut_at k y ys Greater h more = h

  pub sorted_cut : (k : K) (xs : List A) → IsSorted order key xs → IsSorted order key (cut order key k xs)
  unfolding IsStrictlySortedBy
  sorted_cut k [] h = tt
  sorted_cut k (y ∷ ys) h = cut_at k y ys (order (key y) k) h (sorted_cut k ys h.1)

  pub sorted_none : IsSorted order key []
  unfolding IsStrictlySortedBy
  sorted_none = tt
