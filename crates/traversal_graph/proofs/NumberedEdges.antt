-- The edges out of a row to those of certain numbers, told by the nodes that stand behind it.
use Rattle.std.proofs.Common.{◌≡◌, ℕ, zero, suc, ◌+◌, ◌<◌, Bool, true, List, [], ◌∷◌, Some, None, Option, length, refl, sym, ap, subst, ◌∙◌, ◌⊎◌, inl, inr, arith}
use Rattle.std.specs.Prelude.{AllPairs, Contains}
use Rattle.std.proofs.lemmas.List.{get_or-map, length-map}
use Rattle.dep_graph.specs.Lists.{IsRising, ListsAll}
use Rattle.traversal_graph.specs.declared.brief.RowBrief.{RowBrief}
use Rattle.traversal_graph.specs.Candidates.{edges_out, required_behind, replaced_behind}
use Rattle.traversal_graph.specs.Numbered.{IsNumbered, all_of}
use Rattle.traversal_graph.proofs.EachMembers.{Before, Contains-front, in_if, in_each, to_each, to_if}
use Rattle.traversal_graph.proofs.Membership.{behind, edge_of, rise, required, tested, replaced, replaces, requires_test, replaces_test}

abbrev Pairs : Type 0
Pairs = List (ℕ × ℕ)

-- ---- pairs that rise are told by what stands among them

never_before_itself : (x : ℕ × ℕ) → Before x x → ⊥
never_before_itself x (inl lt) = absurd (omega arith)
never_before_itself x (inr h) = let lt = h.1 in absurd (omega arith)

not_both : (x y : ℕ × ℕ) → Before x y → Before y x → ⊥
not_both x y (inl a) (inl b) = absurd (omega arith)
not_both x y (inl a) (inr b) = let e = b.0 in absurd (omega arith)
not_both x y (inr a) (inl b) = let e = a.0 in absurd (omega arith)
not_both x y (inr a) (inr b) = let l = a.1 in let m = b.1 in absurd (omega arith)

-- a pair of a list is its first or one of the others
first_or : (x : ℕ × ℕ) (xs : Pairs) (p : ℕ × ℕ) → Contains (x ∷ xs) p → (x ≡ p) ⊎ (Contains xs p)
first_or x xs p (zero, lt, e) = inl e
first_or x xs p (suc k, lt, e) = inr (k, omega arith, e)

or_first : (x : ℕ × ℕ) (xs : Pairs) (p : ℕ × ℕ) → Contains xs p → Contains (x ∷ xs) p
or_first x xs p (k, lt, e) = (suc k, omega arith, e)

behind_first : (x : ℕ × ℕ) (xs : Pairs) → AllPairs Before (x ∷ xs) → (p : ℕ × ℕ) → Contains xs p → Before x p
behind_first x xs up p (k, lt, e) =
    let B : ℕ × ℕ → Type 0 = λ z. Before x z in
    subst B e (up 0 (suc k) p (omega arith) (omega arith))

others_rise : (x : ℕ × ℕ) (xs : Pairs) → AllPairs Before (x ∷ xs) → AllPairs Before xs
others_rise x xs up i j d lt inside = up (suc i) (suc j) d (omega arith) (omega arith)

abbrev AreAmong : Pairs → Pairs → Type 0
AreAmong xs ys = (p : ℕ × ℕ) → Contains xs p → Contains ys p

same_first : (x y : ℕ × ℕ) (xs ys : Pairs) → AllPairs Before (x ∷ xs) → AllPairs Before (y ∷ ys) → AreAmong (x ∷ xs) (y ∷ ys)
    → AreAmong (y ∷ ys) (x ∷ xs) → x ≡ y
same_first x y xs ys up up' to from =
    elim (first_or y ys x (to x (Contains-front x xs))) [
      | inl e ↦ sym e
      | inr c ↦ elim (first_or x xs y (from y (Contains-front y ys))) [
        | inl e ↦ e
        | inr k ↦ absurd (not_both y x (behind_first y ys up' x c) (behind_first x xs up y k))
      ]
    ]

fewer : (x y : ℕ × ℕ) (xs ys : Pairs) → x ≡ y → AllPairs Before (x ∷ xs) → AreAmong (x ∷ xs) (y ∷ ys) → AreAmong xs ys
fewer x y xs ys e up to p c = elim (first_or y ys p (to p (or_first x xs p c))) [
  | inl same ↦ (let B : ℕ × ℕ → Type 0 = λ z. Before z p in absurd (never_before_itself p (subst B (e ∙ same) (behind_first x xs up p c))))
  | inr k ↦ k
]

-- two lists that rise and hold the same pairs are one
pub same_pairs : (xs ys : Pairs) → AllPairs Before xs → AllPairs Before ys → AreAmong xs ys → AreAmong ys xs → xs ≡ ys
same_pairs [] [] up up' to from = refl
same_pairs [] (y ∷ ys) up up' to from = let c = from y (Contains-front y ys) in absurd (omega (arith, c.1))
same_pairs (x ∷ xs) [] up up' to from = let c = to x (Contains-front x xs) in absurd (omega (arith, c.1))
same_pairs (x ∷ xs) (y ∷ ys) up up' to from =
    let e = same_first x y xs ys up up' to from in
    ap (λ (z : ℕ × ℕ). z ∷ xs) e
    ∙ ap (λ (l : Pairs). y ∷ l)
    (same_pairs xs ys (others_rise x xs up) (others_rise y ys up') (fewer x y xs ys e up to) (fewer y x ys xs (sym e) up' from))

-- ---- edges out of one node

out_rises : (before : ℕ) (nodes : List ℕ) → IsRising nodes → AllPairs Before (edges_out before nodes)
out_rises before nodes up i j d lt inside =
    let f : ℕ → ℕ × ℕ = λ after. (before, after) in
    let inside' : j < length nodes = rw (length-map nodes f) at inside in
    rw (get_or-map f nodes i 0 d (omega arith), get_or-map f nodes j 0 d inside') (inr (refl, up i j 0 lt inside'))

to_out : (before : ℕ) (nodes : List ℕ) (n : ℕ) → Contains nodes n → Contains (edges_out before nodes) (before, n)
to_out before (m ∷ nodes) n (zero, lt, e) = (0, omega arith, ap (λ (k : ℕ). (before, k)) e)
to_out before (m ∷ nodes) n (suc k, lt, e) = or_first (before, m) (edges_out before nodes) (before, n) (to_out before nodes n (k, omega arith, e))
to_out before [] n (k, lt, e) = absurd (omega arith)

in_out : (before : ℕ) (nodes : List ℕ) (p : ℕ × ℕ) → Contains (edges_out before nodes) p → (n : ℕ) × Contains nodes n × ((before, n) ≡ p)
in_out before [] p (k, lt, e) = absurd (omega arith)
in_out before (m ∷ nodes) p (zero, lt, e) = (m, (0, omega arith, refl), e)
in_out before (m ∷ nodes) p (suc k, lt, e) =
    let h = in_out before nodes p (k, omega arith, e) in
    (h.0, (suc h.1.0, omega (arith, h.1.1), h.1.2), h.2)

-- where a test tells that a row's number is among some, the edges to the rows that pass it are those to their nodes
module _ (test : RowBrief → RowBrief → Bool) (first : ℕ) (rows : List RowBrief) (row : RowBrief) (numbers : List ℕ)
    (passes : (other : RowBrief) → Contains numbers other.no → test row other ≡ true)
    (tells : (other : RowBrief) → test row other ≡ true → Contains numbers other.no) where
  pub numbered_edges : (nodes : List ℕ) → ListsAll (IsNumbered first rows numbers) nodes → (r : ℕ)
      → edges_out (first + r) nodes ≡ behind test first rows r row
  numbered_edges nodes h r = same_pairs (edges_out (first + r) nodes) (behind test first rows r row)
      (out_rises (first + r) nodes h.rising) (rise test first rows r row) there back
    where
      f : ℕ → RowBrief → List (ℕ × ℕ)
      f = edge_of test first rows r row

      there : AreAmong (edges_out (first + r) nodes) (behind test first rows r row)
      there p c =
          let i = in_out (first + r) nodes p c in
          let k = (h.each i.0).0 i.1 in
          let node : first + (0 + k.q) ≡ i.0 = omega (arith, k.node_is) in
          let In : ℕ × ℕ → Type 0 = λ z. Contains (f (0 + k.q) k.row) z in
          to_each f 0 rows k.q k.row p k.row_at
          (subst In (ap (λ (n : ℕ). (first + r, n)) node ∙ i.2)
          (to_if (test row k.row) (first + r) (first + (0 + k.q)) (passes k.row k.numbered)))

      back : AreAmong (behind test first rows r row) (edges_out (first + r) nodes)
      back p c =
          let e = in_each f 0 rows p c in
          let k = in_if (test row e.1) (first + r) (first + (0 + e.0)) p e.3 in
          let In : ℕ × ℕ → Type 0 = λ z. Contains (edges_out (first + r) nodes) z in
          subst In k.1
          (to_out (first + r) nodes (first + (0 + e.0)) ((h.each (first + (0 + e.0))).1 (record {
            q = e.0;
            node_is = omega arith;
            row = e.1;
            row_at = e.2;
            numbered = tells e.1 k.0;
          })))

pub required_edges : (first : ℕ) (rows : List RowBrief) (row : RowBrief) (nodes : List ℕ)
    → ListsAll (IsNumbered first rows row.requires_) nodes → (r : ℕ) → edges_out (first + r) nodes ≡ required_behind first rows r row
required_edges first rows row = numbered_edges requires_test first rows row row.requires_
    (λ other. tested row.requires_ other.no) (λ other. required row.requires_ other.no)

pub replaced_edges : (first : ℕ) (rows : List RowBrief) (row : RowBrief) (nodes : List ℕ)
    → ListsAll (IsNumbered first rows (all_of row.replaces)) nodes → (r : ℕ) → edges_out (first + r) nodes ≡ replaced_behind first rows r row
replaced_edges first rows row = numbered_edges replaces_test first rows row (all_of row.replaces)
    (λ other c. replaces row.replaces other.no (one row.replaces other.no c)) (λ other e. only row.replaces other.no (replaced row.replaces other.no e))
  where
    one : (old : Option ℕ) (n : ℕ) → Contains (all_of old) n → old ≡ Some n
    one None n (k, lt, e) = absurd (omega arith)
    one (Some m) n (zero, lt, e) = ap (λ (x : ℕ). Some x) e
    one (Some m) n (suc k, lt, e) = absurd (omega arith)

    only : (old : Option ℕ) (n : ℕ) → old ≡ Some n → Contains (all_of old) n
    only old n e = rw e (0, omega arith, refl)
