-- Which writes carry a graph on: one row over another, the cut of a row, and none.
use Rattle.std.proofs.Common.{◌≡◌, ◌≢◌, inl, inr, ℕ, [], List, None, Option, Some, refl, sym, ap, ◌∙◌, subst}
use Rattle.std.specs.Prelude.{slice_get}
use Rattle.heat_plan.specs.declared.phase.Act.TheVariants.{Delete}
use Rattle.traversal_graph.specs.declared.shape.Node.{Node}
use Rattle.traversal_graph.specs.declared.shape.Node.TheVariants.{U}
use Rattle.row_table.specs.Rows.{cut_row, put_row, row_at}
use Rattle.row_table.specs.declared.row.Row.{Row}
use Rattle.core_state.specs.Reads.{IsDone}
use Rattle.core_state.specs.State.{StateData, graph_at, stack_at}
use Rattle.core_state.specs.declared.graph.Graph.{Graph}
use Rattle.core_state.specs.declared.stack.Stack.{Stack}
use Rattle.step_relation.specs.GraphFits.{IsNode, TargetFits, graph_of, graph_or}
use Rattle.step_relation.specs.Linked.{by_node, by_row}
use Rattle.step_relation.specs.Numbered.{row_of}
use Rattle.step_relation.specs.Sound.{Standing}
use Rattle.history_laws.proofs.tables.Rows.{row_cut, row_else, row_here, row_kept, row_put, same_or_not, same_some, stack-key}
use Rattle.graph_laws.proofs.graphs.Carried.{Carries, Onward, Onward-same, Stays}

-- a row that a node names is of the node's stack
pub theirs : (s : StateData) → Standing s → (name : List ℕ) (st : Stack) → stack_at s.stacks name ≡ Some st
    → (i : ℕ) (node : Node) (a : Row)
    → IsNode (graph_of s name) i node → row_at s.rows (row_of node) ≡ Some a → a.stack ≡ st.name
theirs s h name st at_st i node a = by (graph_at s.graphs name) refl where
  by : (o : Option Graph) → graph_at s.graphs name ≡ o → IsNode (graph_or name o) i node
      → row_at s.rows (row_of node) ≡ Some a → a.stack ≡ st.name
  by None none at at_a = absurd (empty at) where
    empty : slice_get [] i ≡ Some node → ⊥
    empty e = cc
  by (Some g) at_g at at_a = h.links.owned.one (row_of node) a.stack name (by_row a at_a refl)
      (by_node g i node at_g at refl)
      ∙ sym (stack-key s.stacks name st at_st)

module _ (s t : StateData) (h : Standing s) (name : List ℕ) (st : Stack)
    (at_st : stack_at s.stacks name ≡ Some st) where
  abbrev g : Graph
  g = graph_of s name

  -- the rows are the same
  pub carries_same : t.rows ≡ s.rows → Carries s t st g
  carries_same same = record {
    were = λ n a at is. (a, subst (λ (x : List Row). row_at x n ≡ Some a) same at, Onward-same st.trav a);
    theirs = λ i node a at at_a. theirs s h name st at_st i node a at
        (subst (λ (x : List Row). row_at x (row_of node) ≡ Some a) same at_a);
    targets = λ i n word o at f. record {
      row = o;
      found = subst (λ (x : List Row). row_at x o.no ≡ Some o) (sym same) f.is.found;
      onward = Onward-same st.trav o;
      kept = f.kept;
      facts = λ done. refl;
    };
  }

  -- the row q is written over r
  module _ (r q : Row) (stood : row_at s.rows q.no ≡ Some r) (same : t.rows ≡ put_row q s.rows)
      (stack : q.stack ≡ r.stack)
      (on : r.stack ≡ st.name → Onward st.trav r q)
      (aimed : (i n : ℕ) (word : List ℕ) → IsNode g i (U word n) → TargetFits s st word n r
      → (q.act ≢ Delete) × (IsDone g i → q.facts ≡ r.facts)) where
    at_put : (n : ℕ) (a : Row) → row_at t.rows n ≡ Some a → row_at (put_row q s.rows) n ≡ Some a
    at_put n a = subst (λ (x : List Row). row_at x n ≡ Some a) same

    here : (n : ℕ) (a : Row) → row_at s.rows n ≡ Some a → q.no ≡ n → r ≡ a
    here n a at is = same_some r a stood (subst (λ (x : ℕ). row_at s.rows x ≡ Some a) (sym is) at)

    were : (n : ℕ) (a : Row) → row_at t.rows n ≡ Some a → a.stack ≡ st.name → (o : Row) × (row_at s.rows n ≡ Some o)
        × Onward st.trav o a
    were n a at is = elim (row_put q s.rows (at_put n a at)) [
      | inl new ↦ (
        r,
        subst (λ (x : ℕ). row_at s.rows x ≡ Some r) new.0 stood,
        subst (λ (x : Row). Onward st.trav r x) new.1 (on (sym stack ∙ (ap (λ (x : Row). x.stack) new.1 ∙ is))),
      )
      | inr was ↦ (a, was.1, Onward-same st.trav a)
    ]

    own : (i : ℕ) (node : Node) (a : Row) → IsNode g i node → row_at t.rows (row_of node) ≡ Some a → a.stack ≡ st.name
    own i node a at at_a = elim (row_put q s.rows (at_put (row_of node) a at_a)) [
      | inl new ↦ ap (λ (x : Row). x.stack) (sym new.1)
          ∙ (stack ∙ theirs s h name st at_st i node r at (subst (λ (x : ℕ). row_at s.rows x ≡ Some r) new.0 stood))
      | inr was ↦ theirs s h name st at_st i node a at was.1
    ]

    stays : (i n : ℕ) (word : List ℕ) (o : Row) → IsNode g i (U word n) → TargetFits s st word n o → Stays t st g i o
    stays i n word o at f = elim (same_or_not q.no o.no) [
      | inl is ↦ subst (λ (x : Row). Stays t st g i x) (here o.no o f.is.found is) (over (here o.no o f.is.found is) is)
      | inr ne ↦ record {
        row = o;
        found = subst (λ (x : List Row). row_at x o.no ≡ Some o) (sym same) (row_else q s.rows o.no ne ∙ f.is.found);
        onward = Onward-same st.trav o;
        kept = f.kept;
        facts = λ done. refl;
      }
    ] where
      over : r ≡ o → q.no ≡ o.no → Stays t st g i r
      over eq is =
          let fits : TargetFits s st word n r = subst (λ (x : Row). TargetFits s st word n x) (sym eq) f in
          let no_ : q.no ≡ r.no = is ∙ sym (ap (λ (x : Row). x.no) eq) in record {
            row = q;
            found = subst (λ (x : List Row). row_at x r.no ≡ Some q) (sym same)
                (subst (λ (k : ℕ). row_at (put_row q s.rows) k ≡ Some q) no_ (row_here q s.rows));
            onward = on fits.is.stack_is;
            kept = (aimed i n word at fits).0;
            facts = (aimed i n word at fits).1;
          }

    pub carries_put : Carries s t st g
    carries_put = record { were = were; theirs = own; targets = stays }

  -- the row of the number c is cut, which is no target
  module _ (c : ℕ) (same : t.rows ≡ cut_row c s.rows)
      (apart : (i n : ℕ) (word : List ℕ) (o : Row) → IsNode g i (U word n) → TargetFits s st word n o → c ≢ o.no) where
    at_cut : (n : ℕ) (a : Row) → row_at t.rows n ≡ Some a → row_at s.rows n ≡ Some a
    at_cut n a at = (row_cut c s.rows (subst (λ (x : List Row). row_at x n ≡ Some a) same at)).1

    pub carries_cut : Carries s t st g
    carries_cut = record {
      were = λ n a at is. (a, at_cut n a at, Onward-same st.trav a);
      theirs = λ i node a at at_a. theirs s h name st at_st i node a at (at_cut (row_of node) a at_a);
      targets = λ i n word o at f. record {
        row = o;
        found = subst (λ (x : List Row). row_at x o.no ≡ Some o) (sym same)
            (row_kept c s.rows o.no (apart i n word o at f) ∙ f.is.found);
        onward = Onward-same st.trav o;
        kept = f.kept;
        facts = λ done. refl;
      };
    }
