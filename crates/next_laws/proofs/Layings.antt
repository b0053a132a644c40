-- What a command lays out can be found: rows, a graph and its leaves.
use Rattle.std.proofs.Common.{◌≡◌, inl, inr, ℕ, suc, ◌+◌, List, [], ◌∷◌, ◌++◌, length, map, Option, Some, None, refl}
use Rattle.std.proofs.Common.{sym, ap, subst, ◌∙◌, arith}
use Rattle.std.specs.Prelude.{Contains}
use Rattle.std.specs.List.Sorted.{IsNonDecreasing}
use Rattle.std.proofs.lemmas.List.Sorted.{IsPermutation-refl}
use Rattle.std.proofs.lemmas.Map.Keys.{IsStrictlyIncreasing-from_distinct}
use Rattle.heat_plan.specs.declared.item.Item.{Item}
use Rattle.dep_graph.specs.Lists.{IsRising}
use Rattle.traversal_graph.specs.Builds.{Joins}
use Rattle.traversal_graph.specs.Candidates.{candidates}
use Rattle.traversal_graph.specs.Nodes.{IsBuilt, cleanup_nodes, numbers_of, update_nodes}
use Rattle.traversal_graph.specs.declared.brief.RowBrief.{RowBrief}
use Rattle.traversal_graph.specs.declared.shape.TravGraph.{TravGraph}
use Rattle.row_table.specs.Rows.{row_at, row_key}
use Rattle.row_table.specs.declared.row.Row.{Row}
use Rattle.core_state.specs.State.{StateData}
use Rattle.history_laws.specs.Commands.{AreRowsOf, Chooses, IsLeaf, Lays, brief_of, current, fresh, none}
use Rattle.history_laws.specs.Rows.{new_row}
use Rattle.history_laws.proofs.tables.Rows.{row-key, same_or_not, text_or_not}
use Rattle.next_laws.proofs.Graphs.{numbers_same}
use Rattle.next_laws.proofs.Collect.{all_below, all_of}
use Rattle.next_laws.proofs.Decide.{Decided, both_or_not, bound_at, le_or_not, some_or_none}
use Rattle.next_laws.proofs.Paths.{keeps_exist}
use Rattle.next_laws.proofs.Targets.{current_or_none}

record Chosen (s : StateData) (stack : List ℕ) (trav next : ℕ) (items : List Item) : Type 0 where
  pub numbers : List ℕ
  pub rows : List Row
  pub chooses : Chooses s stack trav next items numbers rows

chosen_for : (s : StateData) (stack : List ℕ) (trav next : ℕ) (items : List Item) → Chosen s stack trav next items
chosen_for s stack trav next [] = record { numbers = []; rows = []; chooses = none next }
chosen_for s stack trav next (item ∷ items) = elim (current_or_none s.rows stack item.name) [
  | inl found ↦ let (r, is) = found in let rest = chosen_for s stack trav next items in
      record {
        numbers = r.no ∷ rest.numbers;
        rows = rest.rows;
        chooses = current next item items r rest.numbers rest.rows is rest.chooses;
      }
  | inr missing ↦ let rest = chosen_for s stack trav (next + 1) items in
      record {
        numbers = next ∷ rest.numbers;
        rows = new_row stack trav next item ∷ rest.rows;
        chooses = fresh next item items rest.numbers rest.rows missing rest.chooses;
      }
]

-- the rows of a stack
module _ (rows : List Row) (stack : List ℕ) where
  abbrev of_stack : Option Row → Option Row
  of_stack None = None
  of_stack (Some r) = elim (text_or_not r.stack stack) [ inl is ↦ Some r | inr not ↦ None ]

  kept_row : (r x : Row) (d : Decided (r.stack ≡ stack))
      → elim d as (λ _. Option Row) [ inl is ↦ Some r | inr not ↦ None ] ≡ Some x → (r ≡ x) × (x.stack ≡ stack)
  kept_row r x (inl is) e = let same : r ≡ x = cc in (same, subst (λ (q : Row). q.stack ≡ stack) same is)
  kept_row r x (inr not) e = cc

  keeps_row : (r : Row) (d : Decided (r.stack ≡ stack)) → r.stack ≡ stack
      → elim d as (λ _. Option Row) [ inl is ↦ Some r | inr not ↦ None ] ≡ Some r
  keeps_row r (inl is) of = refl
  keeps_row r (inr not) of = absurd (not of)

  -- the row of this number, where it is the stack's
  own_row : ℕ → Option Row
  own_row n = of_stack (row_at rows n)

  own_is : (n : ℕ) (x : Row) → own_row n ≡ Some x → (row_at rows n ≡ Some x) × (x.stack ≡ stack)
  unfolding own_row
  own_is n x e = by (row_at rows n) refl e where
    by : (o : Option Row) → row_at rows n ≡ o → of_stack o ≡ Some x → (row_at rows n ≡ Some x) × (x.stack ≡ stack)
    by None at h = cc
    by (Some r) at h = let (same, of) = kept_row r x (text_or_not r.stack stack) h in
        (at ∙ ap (λ (q : Row). Some q) same, of)

  is_own : (n : ℕ) (x : Row) → row_at rows n ≡ Some x → x.stack ≡ stack → own_row n ≡ Some x
  unfolding own_row
  is_own n x at of = ap of_stack at ∙ keeps_row x (text_or_not x.stack stack) of

  standing_exist : (standing : List Row) × AreRowsOf rows stack standing
  standing_exist =
      let (b, within) = bound_at row_key rows in
      let (xs, c) = all_below row_key own_row (λ n x e. row-key rows n x (own_is n x e).0) b in (
        xs,
        record {
          rising = c.rising;
          each = λ n r at of. c.has n r (omega arith) (within n r at) (is_own n r at of);
          only = λ r at. own_is r.no r (c.only r at);
        },
      )

-- the graph over them
module _ (items : List Item) (chosen : List ℕ) (standing : List Row) (up : IsRising (map row_key standing)) where
  not_falling : IsNonDecreasing (numbers_of (map brief_of standing))
  not_falling = subst IsNonDecreasing (sym (numbers_same standing)) by where
    by : IsNonDecreasing (map row_key standing)
    by i j d le lt = elim (same_or_not i j) [
      | inl is ↦ rw is (omega arith)
      | inr ne ↦ (let less = up i j d (omega (arith, le, ne)) lt in omega (arith, less))
    ]

  built_exist : (g : TravGraph) × IsBuilt items chosen (map brief_of standing) g
  built_exist =
      let briefs : List RowBrief = map brief_of standing in
      let (edges, kept) = keeps_exist [] (candidates items briefs) in (
        record { nodes = update_nodes items chosen ++ cleanup_nodes briefs; edges = edges },
        record {
          sorted = briefs;
          rows_are = record {
            same = IsPermutation-refl briefs;
            ordered = not_falling;
            rising = λ distinct. IsStrictlyIncreasing-from_distinct (numbers_of briefs) not_falling distinct;
          };
          nodes = refl;
          edges = kept;
        },
      )

leaf_or_not : (g : TravGraph) (n : ℕ) → Decided (IsLeaf g n)
leaf_or_not g n = both_or_not (le_or_not (suc n) (length g.nodes)) entered where
  entered : Decided ((before : ℕ) → ¬ Joins g.edges before n)
  entered = elim (some_or_none (λ (x : ℕ × ℕ). x.1 ≡ n) (λ x. same_or_not x.1 n) g.edges) [
    | inl found ↦ let (x, at, is) = found in inr (λ none. none x.0 (subst (Contains g.edges) (to_pair x n is) at))
    | inr no_ ↦ inl (λ before edge. no_ (before, n) edge refl)
  ] where
    to_pair : (x : ℕ × ℕ) (k : ℕ) → x.1 ≡ k → x ≡ (x.0, k)
    to_pair x k is = let e : (x.0, x.1) ≡ (x.0, k) = ap (λ (b : ℕ). (x.0, b)) is in e

pub lays_exist : (s : StateData) (name : List ℕ) (items : List Item) → Lays s name items
lays_exist s name items =
    let c = chosen_for s name s.next.trav s.next.row items in
    let (standing, are) = standing_exist s.rows name in
    let (graph, built) = built_exist items c.numbers standing are.rising in
    let (leaves, all) = all_of (IsLeaf graph) (leaf_or_not graph) (length graph.nodes) (λ n leaf. leaf.0) in
    record {
      chosen = c.numbers;
      rows = c.rows;
      chooses = c.chooses;
      standing = standing;
      standing_are = are;
      graph = graph;
      built = built;
      leaves = leaves;
      leaves_are = all;
    }
