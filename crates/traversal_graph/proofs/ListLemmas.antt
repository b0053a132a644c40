-- The lists that are read from a graph, one edge or node more.
use Rattle.std.proofs.Common.{◌≡◌, ◌↔◌, ◌∙◌, ℕ, ◌+◌, ◌<◌, ◌≤◌, Bool, true, false, IsTrue, List, [], ◌∷◌, ◌++◌, length, get_or, set, take, replicate, refl, sym, ap, subst, inl, inr, arith}
use Rattle.std.specs.Prelude.{Contains}
use Rattle.std.proofs.lemmas.Bool.{cases_eq, cases_lt, false≢true}
use Rattle.std.proofs.lemmas.List.{take_all, take_more, get_or_read, get_or-set_same, get_or-set_other, get_or-replicate, length-replicate, length-set}
use Rattle.std.proofs.lemmas.List.Elements.{Contains-get_or, Contains-push, Contains-push_cases, Contains-append_left}
use Rattle.std.proofs.lemmas.List.Quantifiers.{all_pairs_push}
use Rattle.dep_graph.specs.Lists.{ListsAll, PutsIn}
use Rattle.dep_graph.specs.Marks.{MarksAll}
use Rattle.traversal_graph.specs.Builds.{Joins}

-- what a mark says of its node
pub marked_behind : (edges : List (ℕ × ℕ)) (marks : List Bool) (node : ℕ) (found : Bool) → node < length marks
    → MarksAll (λ n. (before : ℕ) × Joins edges before n) marks → found ≡ get_or marks node found → found ≡ true
    → (before : ℕ) × Joins edges before node
marked_behind edges marks node found lt exact read e =
    (exact node lt).0 (sym (get_or_read marks node found lt read false) ∙ e)

pub unmarked_leaf : (edges : List (ℕ × ℕ)) (marks : List Bool) (node : ℕ) (found : Bool) → node < length marks
    → MarksAll (λ n. (before : ℕ) × Joins edges before n) marks → found ≡ get_or marks node found → found ≡ false
    → (before : ℕ) → Joins edges before node → ⊥
unmarked_leaf edges marks node found lt exact read e before j =
    false≢true (sym e ∙ get_or_read marks node found lt read false ∙ (exact node lt).1 (before, j))

-- a mark more: the edge's after has it
pub MarksAll-more : (edges : List (ℕ × ℕ)) (i : ℕ) (marks : List Bool) → i < length edges → (get_or edges i (0, 0)).1 < length marks
    → MarksAll (λ n. (before : ℕ) × Joins (take i edges) before n) marks
    → MarksAll (λ n. (before : ℕ) × Joins (take (i + 1) edges) before n) (set marks (get_or edges i (0, 0)).1 true)
MarksAll-more edges i marks lt inside exact node within = rw (take_more edges i (0, 0) lt)
    (elim (cases_eq node (get_or edges i (0, 0)).1) [
      | inl e ↦ (
        λ _. (
          (get_or edges i (0, 0)).0,
          (let J : ℕ → Type 0 = λ n. Contains (take i edges ++ get_or edges i (0, 0) ∷ []) ((get_or edges i (0, 0)).0, n) in
              subst J (sym e) (Contains-push (take i edges) (get_or edges i (0, 0)))),
        ),
        λ _. rw (e, get_or-set_same marks (get_or edges i (0, 0)).1 true false inside) refl,
      )
      | inr ne ↦ rw (get_or-set_other marks (get_or edges i (0, 0)).1 node true false ne) (
        λ m. (let h = was.0 m in (h.0, Contains-append_left (take i edges) (get_or edges i (0, 0) ∷ []) (h.0, node) h.1)),
        λ h. was.1 (h.0, earlier ne h.0 h.1),
      )
    ])
  where
    was : IsTrue (get_or marks node false) ↔ ((before : ℕ) × Joins (take i edges) before node)
    was = exact node (rw (length-set marks (get_or edges i (0, 0)).1 true) at within)

    earlier : (node ≡ (get_or edges i (0, 0)).1 → ⊥) → (before : ℕ) → Contains (take i edges ++ get_or edges i (0, 0) ∷ []) (before, node)
        → Contains (take i edges) (before, node)
    earlier ne before c = elim (Contains-push_cases (take i edges) (get_or edges i (0, 0)) (before, node) c) [
      | inl k ↦ k
      | inr e ↦ absurd (ne (sym (ap (λ (p : ℕ × ℕ). p.1) e)))
    ]

-- an edge to a number past the nodes marks none
pub MarksAll-past : (edges : List (ℕ × ℕ)) (i : ℕ) (marks : List Bool) → i < length edges → length marks ≤ (get_or edges i (0, 0)).1
    → MarksAll (λ n. (before : ℕ) × Joins (take i edges) before n) marks
    → MarksAll (λ n. (before : ℕ) × Joins (take (i + 1) edges) before n) marks
MarksAll-past edges i marks lt past exact node within = rw (take_more edges i (0, 0) lt) (
  λ m. (let h = was.0 m in (h.0, Contains-append_left (take i edges) (get_or edges i (0, 0) ∷ []) (h.0, node) h.1)),
  λ h. was.1 (h.0, earlier h.0 h.1),
)
  where
    was : IsTrue (get_or marks node false) ↔ ((before : ℕ) × Joins (take i edges) before node)
    was = exact node within

    earlier : (before : ℕ) → Contains (take i edges ++ get_or edges i (0, 0) ∷ []) (before, node) → Contains (take i edges) (before, node)
    earlier before c = elim (Contains-push_cases (take i edges) (get_or edges i (0, 0)) (before, node) c) [
      | inl k ↦ k
      | inr e ↦ (let n : (get_or edges i (0, 0)).1 ≡ node = ap (λ (p : ℕ × ℕ). p.1) e in absurd (omega arith))
    ]

pub MarksAll-all : (edges : List (ℕ × ℕ)) (i : ℕ) (marks : List Bool) → length edges ≤ i
    → MarksAll (λ n. (before : ℕ) × Joins (take i edges) before n) marks → MarksAll (λ n. (before : ℕ) × Joins edges before n) marks
MarksAll-all edges i marks le h = rw (take_all i edges le) at h

pub MarksAll-none : (n : ℕ) → MarksAll (λ node. (before : ℕ) × Joins [] before node) (replicate n false)
MarksAll-none n node within = (
  λ m. absurd (false≢true (sym (get_or-replicate n node false false (rw (length-replicate {A = Bool} n false) at within)) ∙ m)),
  λ h. absurd (nowhere h.0 h.1),
)
  where
    nowhere : (before : ℕ) → Contains {X = ℕ × ℕ} [] (before, node) → ⊥
    nowhere before (k, lt, e) = absurd (omega arith)

-- an edge more: its other end goes in
pub ListsAll-more : (edges : List (ℕ × ℕ)) (i : ℕ) (pair : ℕ → ℕ × ℕ) (x : ℕ) (old new : List ℕ) → i < length edges
    → ((y z : ℕ) → pair y ≡ pair z → y ≡ z) → get_or edges i (0, 0) ≡ pair x
    → ListsAll (λ y. Contains (take i edges) (pair y)) old → PutsIn old x new
    → ListsAll (λ y. Contains (take (i + 1) edges) (pair y)) new
ListsAll-more edges i pair x old new lt apart is h puts = rw (take_more edges i (0, 0) lt, is) (record {
  rising = puts.rising;
  each = λ y. (there y, back y);
})
  where
    there : (y : ℕ) → Contains new y → Contains (take i edges ++ pair x ∷ []) (pair y)
    there y c = elim ((puts.each y).0 c) [
      | inl k ↦ Contains-append_left (take i edges) (pair x ∷ []) (pair y) ((h.each y).0 k)
      | inr e ↦ rw e (Contains-push (take i edges) (pair x))
    ]

    back : (y : ℕ) → Contains (take i edges ++ pair x ∷ []) (pair y) → Contains new y
    back y c = (puts.each y).1 (elim (Contains-push_cases (take i edges) (pair x) (pair y) c) [
      | inl k ↦ inl ((h.each y).1 k)
      | inr e ↦ inr (sym (apart x y e))
    ])

-- an edge more, of another node
pub ListsAll-skip : (edges : List (ℕ × ℕ)) (i : ℕ) (pair : ℕ → ℕ × ℕ) (old : List ℕ) → i < length edges
    → ((y : ℕ) → get_or edges i (0, 0) ≡ pair y → ⊥)
    → ListsAll (λ y. Contains (take i edges) (pair y)) old
    → ListsAll (λ y. Contains (take (i + 1) edges) (pair y)) old
ListsAll-skip edges i pair old lt apart h = rw (take_more edges i (0, 0) lt) (record {
  rising = h.rising;
  each = λ y. (there y, back y);
})
  where
    there : (y : ℕ) → Contains old y → Contains (take i edges ++ get_or edges i (0, 0) ∷ []) (pair y)
    there y c = Contains-append_left (take i edges) (get_or edges i (0, 0) ∷ []) (pair y) ((h.each y).0 c)

    back : (y : ℕ) → Contains (take i edges ++ get_or edges i (0, 0) ∷ []) (pair y) → Contains old y
    back y c = (h.each y).1 (elim (Contains-push_cases (take i edges) (get_or edges i (0, 0)) (pair y) c) [
      | inl k ↦ k
      | inr e ↦ absurd (apart y e)
    ])

-- a node more that is of the kind
pub ListsAll-below_more : (Is : ℕ → Type 0) (n : ℕ) (nodes : List ℕ) → Is n
    → ListsAll (λ x. (x < n) × Is x) nodes → ListsAll (λ x. (x < n + 1) × Is x) (nodes ++ n ∷ [])
ListsAll-below_more Is n nodes is h = record {
  rising = all_pairs_push (λ x y. x < y) nodes n h.rising (λ k d lt. ((h.each (get_or nodes k d)).0 (Contains-get_or nodes k d lt)).0);
  each = λ x. (there x, back x);
}
  where
    there : (x : ℕ) → Contains (nodes ++ n ∷ []) x → (x < n + 1) × Is x
    there x c = elim (Contains-push_cases nodes n x c) [
      | inl k ↦ (let b = (h.each x).0 k in (omega (arith, b.0), b.1))
      | inr e ↦ (omega arith, (let P : ℕ → Type 0 = Is in subst P e is))
    ]

    back : (x : ℕ) → (x < n + 1) × Is x → Contains (nodes ++ n ∷ []) x
    back x (lt, k) = elim (cases_lt x n) [
      | inl below ↦ Contains-append_left nodes (n ∷ []) x ((h.each x).1 (below, k))
      | inr above ↦ (let e : n ≡ x = omega arith in let C : ℕ → Type 0 = λ z. Contains (nodes ++ n ∷ []) z in subst C e (Contains-push nodes n))
    ]

-- a node more that isn't
pub ListsAll-below_skip : (Is : ℕ → Type 0) (n : ℕ) (nodes : List ℕ) → (Is n → ⊥)
    → ListsAll (λ x. (x < n) × Is x) nodes → ListsAll (λ x. (x < n + 1) × Is x) nodes
ListsAll-below_skip Is n nodes none h = record {
  rising = h.rising;
  each = λ x. (there x, back x);
}
  where
    there : (x : ℕ) → Contains nodes x → (x < n + 1) × Is x
    there x c = let b = (h.each x).0 c in (omega (arith, b.0), b.1)

    back : (x : ℕ) → (x < n + 1) × Is x → Contains nodes x
    back x (lt, k) = elim (cases_lt x n) [
      | inl below ↦ (h.each x).1 (below, k)
      | inr above ↦ (let e : x ≡ n = omega arith in absurd (none (let P : ℕ → Type 0 = Is in subst P e k)))
    ]
