-- Rows by their numbers: where those of a number begin, and how far they go.
use Rattle.std.proofs.Common.{◌≡◌, ◌⊎◌, ℕ, zero, suc, ◌+◌, ◌<◌, ◌≤◌, true, false, List, [], ◌∷◌, ◌++◌, length, get_or, take, Some, refl, sym, ap, inl, inr, arith}
use Rattle.std.specs.Prelude.{All, Contains, nat_lt, slice_get}
use Rattle.std.specs.List.Sorted.{IsNonDecreasing, IsPartitionedBy, IsPartitionPoint}
use Rattle.std.proofs.lemmas.Bool.{cases_lt, ltb-true, ltb-false, lt-ltb}
use Rattle.std.proofs.lemmas.List.{get_or-map, take_more}
use Rattle.std.proofs.lemmas.List.Elements.{Contains-append_left, Contains-append_right, Contains-append_cases, Contains-get_or}
use Rattle.std.proofs.lemmas.Option.{slice_get_within, slice_get-get_or, get_or_from_slice_get}
use Rattle.dep_graph.specs.Lists.{IsRising, ListsAll, PutsIn}
use Rattle.traversal_graph.specs.declared.brief.RowBrief.{RowBrief}
use Rattle.traversal_graph.specs.Nodes.{numbers_of}
use Rattle.traversal_graph.specs.Numbered.{IsNumbered, IsNumberedBefore, PutsAll}

-- ---- where they begin

-- later rows have no lower numbers
pub later_numbers : (rows : List RowBrief) (i j : ℕ) (d : RowBrief) → IsNonDecreasing (numbers_of rows) → i ≤ j → j < length rows
    → (get_or rows i d).no ≤ (get_or rows j d).no
later_numbers rows i j d up le lt =
    let n = λ (k : ℕ) (in' : k < length rows). get_or-map (λ (r : RowBrief). r.no) rows k d 0 in' in
    rw (← n i (omega arith), ← n j lt) (up i j 0 le (rw (length_numbers rows) lt))
  where
    length_numbers : (rows : List RowBrief) → length (numbers_of rows) ≡ length rows
    length_numbers [] = refl
    length_numbers (r ∷ rows) = ap suc (length_numbers rows)

pub parted : (rows : List RowBrief) (number : ℕ) → IsNonDecreasing (numbers_of rows)
    → IsPartitionedBy (λ (row : RowBrief). nat_lt row.no number) rows
parted rows number up i j d le lt t =
    lt-ltb (get_or rows i d).no number
    (let below = ltb-true (get_or rows j d).no number t in
    let rises = later_numbers rows i j d up le lt in
    omega arith)

pub start : (rows : List RowBrief) (number i : ℕ)
    → IsPartitionPoint (λ (row : RowBrief). nat_lt row.no number ≡ true) (λ (row : RowBrief). nat_lt row.no number ≡ false) rows i
    → IsPartitionPoint (λ (row : RowBrief). row.no < number) (λ (row : RowBrief). number ≤ row.no) rows i
start rows number i h = (
  λ k d from to. ltb-true (get_or rows k d).no number (h.0 k d from to),
  λ k d from to. ltb-false (get_or rows k d).no number (h.1 k d from to),
)

-- ---- how far they go

-- before the first of them there is none
pub puts_none : (first : ℕ) (rows : List RowBrief) (number q : ℕ) (nodes : List ℕ) → IsRising nodes
    → ((k : ℕ) (d : RowBrief) → 0 ≤ k → k < q → (get_or rows k d).no < number) → PutsAll (IsNumberedBefore first rows number q) nodes nodes
puts_none first rows number q nodes up below = record {
  rising = up;
  each = λ x. (
    λ c. inl c,
    λ h. elim h [
      | inl c ↦ c
      | inr k ↦ absurd (none x k)
    ],
  );
}
  where
    none : (x : ℕ) → IsNumberedBefore first rows number q x → ⊥
    none x k =
        let low = below k.q k.row (omega arith) k.before in
        let n : (get_or rows k.q k.row).no ≡ k.row.no = ap (λ (r : RowBrief). r.no) (get_or_from_slice_get rows k.q k.row k.row k.row_at) in
        omega (arith, k.numbered)

-- the node of the next one goes in
pub puts_one : (first : ℕ) (rows : List RowBrief) (number q : ℕ) (row : RowBrief) (old mid new : List ℕ)
    → slice_get rows q ≡ Some row → row.no ≡ number → PutsAll (IsNumberedBefore first rows number q) old mid
    → PutsIn mid (first + q) new → PutsAll (IsNumberedBefore first rows number (q + 1)) old new
puts_one first rows number q row old mid new at is h puts = record {
  rising = puts.rising;
  each = λ x. (λ c. there x ((puts.each x).0 c), back x);
}
  where
    there : (x : ℕ) → (Contains mid x) ⊎ (x ≡ first + q) → (Contains old x) ⊎ IsNumberedBefore first rows number (q + 1) x
    there x (inl c) = elim ((h.each x).0 c) [
      | inl o ↦ inl o
      | inr b ↦ inr (record {
        q = b.q;
        before = omega (arith, b.before);
        node_is = b.node_is;
        row = b.row;
        row_at = b.row_at;
        numbered = b.numbered;
      })
    ]
    there x (inr e) = inr (record {
      q = q;
      before = omega arith;
      node_is = e;
      row = row;
      row_at = at;
      numbered = is;
    })

    back : (x : ℕ) → (Contains old x) ⊎ IsNumberedBefore first rows number (q + 1) x → Contains new x
    back x (inl o) = (puts.each x).1 (inl ((h.each x).1 (inl o)))
    back x (inr b) = elim (cases_lt b.q q) [
      | inl lt ↦ (puts.each x).1 (inl ((h.each x).1 (inr (record {
        q = b.q;
        before = lt;
        node_is = b.node_is;
        row = b.row;
        row_at = b.row_at;
        numbered = b.numbered;
      }))))
      | inr ge ↦ (puts.each x).1 (inr (omega (arith, b.before, b.node_is)))
    ]

-- behind the last of them there is none
pub puts_all : (first : ℕ) (rows : List RowBrief) (number q : ℕ) (old new : List ℕ) → IsNonDecreasing (numbers_of rows)
    → ((k : ℕ) (d : RowBrief) → q ≤ k → k < length rows → number ≤ (get_or rows k d).no)
    → ((row : RowBrief) → slice_get rows q ≡ Some row → row.no ≡ number → ⊥)
    → PutsAll (IsNumberedBefore first rows number q) old new → PutsAll (IsNumbered first rows (number ∷ [])) old new
puts_all first rows number q old new up from none h = record {
  rising = h.rising;
  each = λ x. (λ c. there x ((h.each x).0 c), back x);
}
  where
    there : (x : ℕ) → (Contains old x) ⊎ IsNumberedBefore first rows number q x → (Contains old x) ⊎ IsNumbered first rows (number ∷ []) x
    there x (inl c) = inl c
    there x (inr b) = inr (record {
      q = b.q;
      node_is = b.node_is;
      row = b.row;
      row_at = b.row_at;
      numbered = (0, omega arith, sym b.numbered);
    })

    only : (n : ℕ) → Contains (number ∷ []) n → n ≡ number
    only n (zero, lt, e) = sym e
    only n (suc k, lt, e) = absurd (omega arith)

    past : (k : ℕ) (row : RowBrief) → q ≤ k → slice_get rows k ≡ Some row → row.no ≡ number → ⊥
    past k row le at is =
        let lt = slice_get_within rows k row at in
        let here : slice_get rows q ≡ Some (get_or rows q row) = slice_get-get_or rows q row (omega arith) in
        let low = from q row (omega arith) (omega arith) in
        let rises = later_numbers rows q k row up le lt in
        let n : (get_or rows k row).no ≡ row.no = ap (λ (r : RowBrief). r.no) (get_or_from_slice_get rows k row row at) in
        none (get_or rows q row) here (omega arith)

    back : (x : ℕ) → (Contains old x) ⊎ IsNumbered first rows (number ∷ []) x → Contains new x
    back x (inl c) = (h.each x).1 (inl c)
    back x (inr b) =
        let is = only b.row.no b.numbered in
        elim (cases_lt b.q q) [
          | inl lt ↦ (h.each x).1 (inr (record {
            q = b.q;
            before = lt;
            node_is = b.node_is;
            row = b.row;
            row_at = b.row_at;
            numbered = is;
          }))
          | inr ge ↦ absurd (past b.q b.row ge b.row_at is)
        ]

-- ---- of several numbers

pub numbered_none : (first : ℕ) (rows : List RowBrief) → ListsAll (IsNumbered first rows []) []
numbered_none first rows = record {
  rising = λ i j d lt inside. absurd (omega arith);
  each = λ x. (λ c. absurd (nowhere x c), λ k. absurd (nowhere k.row.no k.numbered));
}
  where
    nowhere : (x : ℕ) → Contains {X = ℕ} [] x → ⊥
    nowhere x (k, lt, e) = absurd (omega arith)

pub numbered_more : (first : ℕ) (rows : List RowBrief) (numbers : List ℕ) (i n : ℕ) (old new : List ℕ) → i < length numbers
    → n ≡ get_or numbers i n → ListsAll (IsNumbered first rows (take i numbers)) old → PutsAll (IsNumbered first rows (n ∷ [])) old new
    → ListsAll (IsNumbered first rows (take (i + 1) numbers)) new
numbered_more first rows numbers i n old new lt read h puts = rw (take_more numbers i n lt, ← read) (record {
  rising = puts.rising;
  each = λ x. (λ c. there x ((puts.each x).0 c), back x);
})
  where
    more : (x : ℕ) (some : List ℕ) → ((m : ℕ) → Contains some m → Contains (take i numbers ++ n ∷ []) m)
        → IsNumbered first rows some x → IsNumbered first rows (take i numbers ++ n ∷ []) x
    more x some up k = record {
      q = k.q;
      node_is = k.node_is;
      row = k.row;
      row_at = k.row_at;
      numbered = up k.row.no k.numbered;
    }

    there : (x : ℕ) → (Contains old x) ⊎ IsNumbered first rows (n ∷ []) x → IsNumbered first rows (take i numbers ++ n ∷ []) x
    there x (inl c) = more x (take i numbers) (λ m. Contains-append_left (take i numbers) (n ∷ []) m) ((h.each x).0 c)
    there x (inr k) = more x (n ∷ []) (λ m. Contains-append_right (take i numbers) (n ∷ []) m) k

    with : (x : ℕ) (k : IsNumbered first rows (take i numbers ++ n ∷ []) x) (some : List ℕ) → Contains some k.row.no → IsNumbered first rows some x
    with x k some c = record {
      q = k.q;
      node_is = k.node_is;
      row = k.row;
      row_at = k.row_at;
      numbered = c;
    }

    back : (x : ℕ) → IsNumbered first rows (take i numbers ++ n ∷ []) x → Contains new x
    back x k = (puts.each x).1 (elim (Contains-append_cases (take i numbers) (n ∷ []) k.row.no k.numbered) [
      | inl c ↦ inl ((h.each x).1 (with x k (take i numbers) c))
      | inr c ↦ inr (with x k (n ∷ []) c)
    ])

pub numbered_within : (first : ℕ) (rows : List RowBrief) (numbers nodes : List ℕ) → ListsAll (IsNumbered first rows numbers) nodes
    → All (λ node. node < first + length rows) nodes
numbered_within first rows numbers nodes h k d lt =
    let is = (h.each (get_or nodes k d)).0 (Contains-get_or nodes k d lt) in
    let inside = slice_get_within rows is.q is.row is.row_at in
    omega (arith, is.node_is)
