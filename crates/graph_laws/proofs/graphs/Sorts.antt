-- The rows of a stack as a graph sees them: put in order, each number once.
use Rattle.std.proofs.Common.{◌≡◌, ◌<◌, inl, inr, ℕ, zero, suc, List, [], ◌∷◌, map, Some, refl, sym, ap, subst, arith}
use Rattle.std.specs.Prelude.{Contains, get_or, length, nat_eq, slice_get}
use Rattle.std.specs.List.{IsDistinct}
use Rattle.std.specs.List.Sorted.{IsStrictlyIncreasing}
use Rattle.std.proofs.lemmas.Bool.Decides.{Decides-eqb}
use Rattle.std.proofs.lemmas.List.Kept.{AllPairs-from_increasing}
use Rattle.std.proofs.lemmas.List.Sorted.{Contains-permutation, IsPermutation-sym}
use Rattle.std.proofs.lemmas.Map.Made.{IsDistinct-from_AllPairs}
use Rattle.std.proofs.lemmas.Option.{get_or_from_slice_get, slice_get_within}
use Rattle.traversal_graph.specs.Nodes.{IsSortedCopy, numbers_of}
use Rattle.traversal_graph.specs.declared.brief.RowBrief.{RowBrief}
use Rattle.row_table.specs.Rows.{row_at, row_key}
use Rattle.row_table.specs.declared.row.Row.{Row}
use Rattle.step_relation.specs.Commands.{AreRowsOf, brief_of}
use Rattle.history_laws.proofs.tables.Rows.{same_or_not}
use Rattle.graph_laws.proofs.graphs.Lists.{below_or_above, contained, contains_at}

module _ {A B : Type 0} (f : A → B) where
  map_at : (xs : List A) (i : ℕ) (x : A) → slice_get xs i ≡ Some x → slice_get (map f xs) i ≡ Some (f x)
  map_at [] i x at = cc
  map_at (y ∷ xs) zero x at = let is : y ≡ x = cc in ap (λ (z : A). Some (f z)) is
  map_at (y ∷ xs) (suc i) x at = map_at xs i x at

  map_was : (xs : List A) (i : ℕ) (y : B) → slice_get (map f xs) i ≡ Some y
      → (x : A) × (slice_get xs i ≡ Some x) × (y ≡ f x)
  map_was [] i y at = cc
  map_was (x ∷ xs) zero y at = (x, refl, (let is : f x ≡ y = cc in sym is))
  map_was (x ∷ xs) (suc i) y at = map_was xs i y at

  pub contains_map : (xs : List A) (x : A) → Contains xs x → Contains (map f xs) (f x)
  contains_map xs x c = let (i, at) = contained xs x c in contains_at (map f xs) i (f x) (map_at xs i x at)

  contains_was : (xs : List A) (y : B) → Contains (map f xs) y → (x : A) × Contains xs x × (y ≡ f x)
  contains_was xs y c = let (i, at) = contained (map f xs) y c in let (x, at_x, is) = map_was xs i y at in
      (x, contains_at xs i x at_x, is)

-- rising numbers are pairwise different
numbers_same : (standing : List Row) → numbers_of (map brief_of standing) ≡ map row_key standing
numbers_same [] = refl
numbers_same (r ∷ standing) = ap (λ (l : List ℕ). r.no ∷ l) (numbers_same standing)

module _ (rows : List Row) (stack : List ℕ) (standing : List Row) (are : AreRowsOf rows stack standing)
    (sorted : List RowBrief)
    (copy : IsSortedCopy (map brief_of standing) sorted) where
  distinct : IsDistinct nat_eq (numbers_of (map brief_of standing))
  distinct = subst (IsDistinct nat_eq) (sym (numbers_same standing))
      (IsDistinct-from_AllPairs Decides-eqb (map row_key standing)
      (λ i j d lt within same. let less = are.rising i j d lt within in absurd (omega (arith, less, same))))

  rising : IsStrictlyIncreasing (numbers_of sorted)
  rising = copy.rising distinct

  -- a row of the list is one of the stack
  pub sorted_row : (r : ℕ) (b : RowBrief) → slice_get sorted r ≡ Some b
      → (q : Row) × (b ≡ brief_of q) × (row_at rows q.no ≡ Some q) × (q.stack ≡ stack)
  sorted_row r b at =
      let c : Contains (map brief_of standing) b = Contains-permutation sorted (map brief_of standing) b
      (IsPermutation-sym (map brief_of standing) sorted copy.same) (contains_at sorted r b at) in
      let (q, in_q, is) = contains_was brief_of standing b c in
      let (found, of) = are.only q in_q in (q, is, found, of)

  -- and each of the stack is in it
  pub row_sorted : (n : ℕ) (q : Row) → row_at rows n ≡ Some q → q.stack ≡ stack
      → (r : ℕ) × (slice_get sorted r ≡ Some (brief_of q))
  row_sorted n q at of =
      contained sorted (brief_of q) (Contains-permutation (map brief_of standing) sorted (brief_of q) copy.same
      (contains_map brief_of standing q (are.each n q at of)))

  -- at one place
  pub sorted_once : (r k : ℕ) (a b : RowBrief) → slice_get sorted r ≡ Some a → slice_get sorted k ≡ Some b
      → a.no ≡ b.no → r ≡ k
  sorted_once r k a b at_r at_k same = elim (same_or_not r k) [
    | inl is ↦ is
    | inr ne ↦ elim (below_or_above r k ne) [
      | inl lt ↦ absurd (apart r k a b at_r at_k lt same)
      | inr gt ↦ absurd (apart k r b a at_k at_r gt (sym same))
    ]
  ] where
    number : (i : ℕ) (x : RowBrief) → slice_get sorted i ≡ Some x → get_or (numbers_of sorted) i 0 ≡ x.no
    number i x at = get_or_from_slice_get (numbers_of sorted) i x.no 0 (map_at (λ (y : RowBrief). y.no) sorted i x at)

    apart : (i j : ℕ) (x y : RowBrief) → slice_get sorted i ≡ Some x → slice_get sorted j ≡ Some y → i < j
        → x.no ≡ y.no → ⊥
    apart i j x y at_i at_j lt eq =
        let within : j < length (numbers_of sorted) = slice_get_within (numbers_of sorted) j y.no
        (map_at (λ (z : RowBrief). z.no) sorted j y at_j) in
        let less = AllPairs-from_increasing (numbers_of sorted) rising i j 0 lt within in
        let n = number i x at_i in let m = number j y at_j in omega (arith, less, n, m, eq)
