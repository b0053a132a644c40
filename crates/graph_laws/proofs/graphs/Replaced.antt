-- Graphs fit after a row that another traversal began was replaced: `graph_replaced`.
use Rattle.std.proofs.Common.{◌≡◌, ◌≢◌, ◌<◌, ◌≤◌, ◌⊎◌, inl, inr, ℕ, [], List, None, Option, Some, refl, sym, ap, ◌∙◌}
use Rattle.std.proofs.Common.{subst, arith}
use Rattle.std.specs.Prelude.{slice_get}
use Rattle.heat_value.specs.Data.{Members}
use Rattle.heat_plan.specs.declared.phase.Act.TheVariants.{Init}
use Rattle.traversal_graph.specs.declared.shape.Node.{Node}
use Rattle.traversal_graph.specs.declared.shape.Node.TheVariants.{C, U}
use Rattle.row_table.specs.Chains.{IsCurrent}
use Rattle.row_table.specs.Rows.{put_row, row_at}
use Rattle.row_table.specs.declared.row.Row.{Row}
use Rattle.sync_points.specs.declared.point.Input.{Input}
use Rattle.core_state.specs.Changes.{applied}
use Rattle.core_state.specs.Reads.{IsDone}
use Rattle.core_state.specs.State.{StateData, graph_at, stack_at}
use Rattle.core_state.specs.declared.graph.Graph.{Graph}
use Rattle.core_state.specs.declared.stack.Stack.{Stack}
use Rattle.step_relation.specs.Begins.{Begins, next_row, replaced_changes}
use Rattle.step_relation.specs.Rows.{replaced}
use Rattle.step_relation.specs.Targets.{IsCurrentOf}
use Rattle.step_relation.specs.GraphFits.{Aims, GraphFits, IsInput, IsNode, Stands, Sweeps, TargetFits, graph_of, graph_or}
use Rattle.step_relation.specs.GraphFits.{of_c, of_u}
use Rattle.step_relation.specs.Numbered.{row_of}
use Rattle.step_relation.specs.Sound.{Standing}
use Rattle.history_laws.proofs.tables.Rows.{row-key, row_else, row_here, row_put, row_self, same_some, stack-key, text_or_not}
use Rattle.history_laws.proofs.tables.Targets.{current_once, same_current}
use Rattle.graph_laws.specs.graphs.Laws.{GraphsFit}
use Rattle.graph_laws.proofs.graphs.Carried.{Carries, Onward-same, aims_at, aims_fits, aims_of, graph_carried}
use Rattle.graph_laws.proofs.graphs.Carriers.{theirs}
use Rattle.graph_laws.proofs.graphs.Placed.{its_graph_fits, its_item, its_node, its_target, undone}
use Rattle.graph_laws.proofs.graphs.Shapes.{create_is_kept}

-- a node of a graph names a number that was drawn
pub node_below : (s : StateData) → Standing s → (name : List ℕ) (i : ℕ) (node : Node) → IsNode (graph_of s name) i node
    → row_of node < s.next.row
node_below s h name i node = by (graph_at s.graphs name) refl where
  by : (o : Option Graph) → graph_at s.graphs name ≡ o → IsNode (graph_or name o) i node → row_of node < s.next.row
  by None none at = absurd (empty at) where
    empty : slice_get [] i ≡ Some node → ⊥
    empty e = cc
  by (Some g) at_g at = (h.links.numbered.graphs name g at_g).nodes i node at

some_not_none : {o : Option ℕ} (n : ℕ) → o ≡ Some n → o ≡ None → ⊥
some_not_none n a b = cc

module _ (s : StateData) (h : Standing s) (e : ℕ) (k : Begins s e) (props : Members) (other : k.row.trav ≢ k.stack.trav)
    (begun : k.row.act ≢ Init) where
  abbrev r : Row
  r = k.row

  abbrev new : Row
  new = next_row s e k props

  abbrev old : Row
  old = replaced s.next.row k.row

  abbrev t : StateData
  t = applied (replaced_changes s e k props) s

  abbrev i : ℕ
  i = k.job.letter.node

  abbrev own : List ℕ
  own = k.job.letter.stack

  abbrev st : Stack
  st = k.stack

  abbrev g : Graph
  g = graph_of s own

  stood : row_at s.rows r.no ≡ Some r
  stood = row_self s.rows k.job.row r k.found

  below : (n : ℕ) (a : Row) → row_at s.rows n ≡ Some a → n < s.next.row
  below n a at = let e = row-key s.rows n a at in let b = (h.links.numbered.rows n a at).no_ in omega arith

  -- what is found after it
  data Found (n : ℕ) (a : Row) : Type 0 where
    is_old : r.no ≡ n → old ≡ a → Found n a
    is_new : s.next.row ≡ n → new ≡ a → Found n a
    was : r.no ≢ n → s.next.row ≢ n → row_at s.rows n ≡ Some a → Found n a

  found : (n : ℕ) (a : Row) → row_at t.rows n ≡ Some a → Found n a
  found n a at = elim (row_put old (put_row new s.rows) at) [
    | inl o ↦ is_old o.0 o.1
    | inr o ↦ elim (row_put new s.rows o.1) [ inl x ↦ is_new x.0 x.1 | inr x ↦ was o.0 x.0 x.1 ]
  ]

  at_else : (n : ℕ) → r.no ≢ n → s.next.row ≢ n → row_at t.rows n ≡ row_at s.rows n
  at_else n x y = row_else old (put_row new s.rows) n x ∙ row_else new s.rows n y

  at_new : row_at t.rows s.next.row ≡ Some new
  at_new = row_else old (put_row new s.rows) s.next.row (λ eq. let b = below r.no r stood in absurd (omega arith))
      ∙ row_here new s.rows

  at_was : (n : ℕ) (a : Row) → row_at s.rows n ≡ Some a → r.no ≢ n → row_at t.rows n ≡ Some a
  at_was n a at ne = at_else n ne (λ eq. let b = below n a at in absurd (omega arith)) ∙ at

  is_r : (a : Row) → row_at s.rows a.no ≡ Some a → r.no ≡ a.no → a ≡ r
  is_r a at eq = same_some a r at (subst (λ (x : ℕ). row_at s.rows x ≡ Some r) eq stood)

  last : r.replaced_by ≡ None
  last = (its_target s h e k).is.current.last

  -- the node's target is the new row
  module _ (j n : ℕ) (at_j : IsNode g j (U k.name n)) where
    n_below : n < s.next.row
    n_below = node_below s h own j (U k.name n) at_j

    same_place : i ≡ j
    same_place = (its_graph_fits s h e k).nodes.one_update i j k.chosen n k.name (its_node s h e k) at_j

    before : TargetFits s st k.name n r
    before = let (q, f) = (its_graph_fits s h e k).targets.updates j n k.name at_j in
        subst (λ (x : Row). TargetFits s st k.name n x)
        (same_current s.rows st.name k.name q r f.is (its_target s h e k).is) f

    current_new : IsCurrentOf t.rows st.name k.name new
    current_new = record {
      found = at_new;
      stack_is = refl;
      name_is = its_item s h e k;
      current = record { kept = create_is_kept; last = refl };
      greatest = λ m q at of called current. by m q (found m q at) current;
    } where
      by : (m : ℕ) (q : Row) → Found m q → IsCurrent q → m ≤ s.next.row
      by m q (is_old x eq) current =
          absurd (some_not_none s.next.row (ap (λ (y : Row). y.replaced_by) (sym eq)) current.last)
      by m q (is_new x eq) current = omega arith
      by m q (was x y at) current = let b = below m q at in omega arith

    chosen_new : (q : Row) → row_at t.rows n ≡ Some q → (q.replaced_by ≡ Some s.next.row)
    chosen_new q at = by q (found n q at) where
      by : (q : Row) → Found n q → q.replaced_by ≡ Some s.next.row
      by q (is_old x eq) = ap (λ (y : Row). y.replaced_by) (sym eq)
      by q (is_new x eq) = let b = n_below in absurd (omega arith)
      by q (was x y at) = elim (before.from q at) [
        | inl same ↦ absurd (x (sym same))
        | inr up ↦ absurd (other up.1)
      ]

    target_new : TargetFits t st k.name n new
    target_new = record {
      to = aims_at t.rows st.name k.name n new current_new (λ q at. inr (chosen_new q at, n_below));
      is = current_new;
      from = λ q at. inr (chosen_new q at, refl);
      kept = create_is_kept;
    }

  -- another node's target stays
  module _ (j n : ℕ) (word : List ℕ) (at_j : IsNode g j (U word n)) (apart : word ≢ k.name) (o : Row)
      (f : TargetFits s st word n o) where
    not_r : r.no ≢ o.no
    not_r eq =
        let same : o ≡ r = is_r o f.is.found eq in
        apart (sym f.is.name_is ∙ (ap (λ (x : Row). x.name) same ∙ (its_target s h e k).is.name_is))

    current_still : IsCurrentOf t.rows st.name word o
    current_still = record {
      found = at_was o.no o f.is.found not_r;
      stack_is = f.is.stack_is;
      name_is = f.is.name_is;
      current = f.is.current;
      greatest = λ m q at of called current. by m q (found m q at) of called current;
    } where
      by : (m : ℕ) (q : Row) → Found m q → q.stack ≡ st.name → q.name ≡ word → IsCurrent q → m ≤ o.no
      by m q (is_old x eq) of called current =
          absurd (some_not_none s.next.row (ap (λ (y : Row). y.replaced_by) (sym eq)) current.last)
      by m q (is_new x eq) of called current =
          absurd (apart (sym called ∙ (ap (λ (y : Row). y.name) (sym eq) ∙ its_item s h e k)))
      by m q (was x y at) of called current = f.is.greatest m q at of called current

    from_still : (q : Row) → row_at t.rows n ≡ Some q → row_at s.rows n ≡ Some q
    from_still q at = by q (found n q at) where
      chosen_r : r.no ≡ n → ⊥
      chosen_r eq = elim (f.from r (subst (λ (x : ℕ). row_at s.rows x ≡ Some r) eq stood)) [
        | inl same ↦ not_r (eq ∙ same)
        | inr up ↦ some_not_none o.no up.0 last
      ]

      by : (q : Row) → Found n q → row_at s.rows n ≡ Some q
      by q (is_old x eq) = absurd (chosen_r x)
      by q (is_new x eq) = let b : n < s.next.row = node_below s h own j (U word n) at_j in absurd (omega arith)
      by q (was x y at) = at

    target_still : TargetFits t st word n o
    target_still = record {
      to = aims_at t.rows st.name word n o current_still up;
      is = current_still;
      from = λ q at. f.from q (from_still q at);
      kept = f.kept;
    } where
      up : (q : Row) → row_at t.rows n ≡ Some q → (n ≡ o.no) ⊎ ((q.replaced_by ≡ Some o.no) × (n < o.no))
      up q at = elim (f.from q (from_still q at)) [
        | inl same ↦ inl same
        | inr by ↦ inr (by.0, h.links.chained.rises n o.no q (from_still q at) by.0)
      ]

  updates : (j n : ℕ) (word : List ℕ) → IsNode g j (U word n) → (a : Row) × TargetFits t st word n a
  updates j n word at_j = elim (text_or_not k.name word) [
    | inl is ↦ (
      new,
      subst (λ (x : List ℕ). TargetFits t st x n new) is
          (target_new j n (subst (λ (x : List ℕ). IsNode g j (U x n)) (sym is) at_j)),
    )
    | inr ne ↦ let (o, f) = (its_graph_fits s h e k).targets.updates j n word at_j in
        (o, target_still j n word at_j (λ eq. ne (sym eq)) o f)
  ]

  -- an aim at another name stays
  aim_still : (j : ℕ) (word : List ℕ) (o : Row) → word ≢ k.name → Aims s st g j word o → Aims t st g j word o
  aim_still j word o apart a = aims_of t st g j a.chosen word o a.node
      (target_still j a.chosen word a.node apart o (aims_fits s st g (its_graph_fits s h e k).targets j word o a))

  rows_then : (n : ℕ) (a : Row) → Found n a → a.stack ≡ st.name
      → ((j : ℕ) × Aims t st g j a.name a) ⊎ ((j : ℕ) × IsNode g j (C n))
  rows_then n a (is_old x eq) is = inr (subst (λ (y : ℕ). (j : ℕ) × IsNode g j (C y)) x
      ((its_graph_fits s h e k).targets.old r.no r stood (its_target s h e k).is.stack_is other begun))
  rows_then n a (is_new x eq) is = inl (
    i,
    subst (λ (y : Row). Aims t st g i y.name y) eq
        (subst (λ (y : List ℕ). Aims t st g i y new) (sym (its_item s h e k))
        (aims_of t st g i k.chosen k.name new (its_node s h e k) (target_new i k.chosen (its_node s h e k)))),
  )
  rows_then n a (was x y at) is = elim ((its_graph_fits s h e k).targets.rows n a at is) [
    | inl (j, aims) ↦ inl (j, aim_still j a.name a (λ called. x (is_target j aims called ∙ row-key s.rows n a at)) aims)
    | inr there ↦ inr there
  ] where
    is_target : (j : ℕ) → Aims s st g j a.name a → a.name ≡ k.name → r.no ≡ a.no
    is_target j aims called =
        let f = aims_fits s st g (its_graph_fits s h e k).targets j a.name a aims in
        current_once s.rows st.name k.name r a (its_target s h e k).is
        (subst (λ (y : List ℕ). IsCurrentOf s.rows st.name y a) called f.is)

  old_then : (n : ℕ) (a : Row) → Found n a → a.stack ≡ st.name → a.trav ≢ st.trav → a.act ≢ Init
      → (j : ℕ) × IsNode g j (C n)
  old_then n a (is_old x eq) is past act = subst (λ (y : ℕ). (j : ℕ) × IsNode g j (C y)) x
      ((its_graph_fits s h e k).targets.old r.no r stood (its_target s h e k).is.stack_is other begun)
  old_then n a (is_new x eq) is past act = absurd (past (ap (λ (y : Row). y.trav) (sym eq)))
  old_then n a (was x y at) is past act = (its_graph_fits s h e k).targets.old n a at is past act

  -- a clean-up node's row was there, with this name and stack
  swept : (j : ℕ) (a : Row) → Sweeps t g j a → (o : Row) × Sweeps s g j o × (a.name ≡ o.name) × (a.stack ≡ o.stack)
  swept j a c = by (found a.no a c.found) where
    by : Found a.no a → (o : Row) × Sweeps s g j o × (a.name ≡ o.name) × (a.stack ≡ o.stack)
    by (is_old x eq) = (
      r,
      record { node = subst (λ (y : ℕ). IsNode g j (C y)) (sym x) c.node; found = stood },
      ap (λ (y : Row). y.name) (sym eq),
      ap (λ (y : Row). y.stack) (sym eq),
    )
    by (is_new x eq) = let b : a.no < s.next.row = node_below s h own j (C a.no) c.node in absurd (omega arith)
    by (was x y at) = (a, record { node = c.node; found = at }, refl, refl)

  input_then : (x : Input) → IsDone g x.from → IsInput s st g x → IsInput t st g x
  input_then x done (of_u word o aims called row facts) =
      of_u word o (aim_still x.from word o apart aims) called row facts where
        apart : word ≢ k.name
        apart eq =
            let place : i ≡ x.from = same_place x.from aims.chosen
            (subst (λ (y : List ℕ). IsNode g x.from (U y aims.chosen)) eq aims.node) in
            undone s h e k (subst (IsDone g) (sym place) done)
  input_then x done (of_c n at called row facts) = of_c n at called row facts

  own_then : GraphFits t st g
  own_then = let f = its_graph_fits s h e k in record {
    nodes = f.nodes;
    edges = record {
      needed = f.edges.needed;
      needs = f.edges.needs;
      behind = λ a c n q at_a sweeps. let (o, sweeps', called, _) = swept c q sweeps in
          f.edges.behind a c n o (subst (λ (x : List ℕ). IsNode g a (U x n)) called at_a) sweeps';
    };
    targets = record {
      updates = updates;
      cleanups = λ c q sweeps. let (o, sweeps', _, of) = swept c q sweeps in of ∙ f.targets.cleanups c o sweeps';
      rows = λ n a at is. rows_then n a (found n a at) is;
      old = λ n a at is past act. old_then n a (found n a at) is past act;
    };
    inputs = record {
      ready = f.inputs.ready;
      stand = λ j p x at has. let z : Stands s st g j x = f.inputs.stand j p x at has in
          record { edge = z.edge; done = z.done; its = input_then x z.done z.its };
      given = f.inputs.given;
      once = f.inputs.once;
    };
  }

  -- of another stack no row is written
  module _ (name : List ℕ) (st' : Stack) (at_st : stack_at s.stacks name ≡ Some st') (apart : name ≢ own) where
    far : r.stack ≢ st'.name
    far eq = apart (sym (stack-key s.stacks name st' at_st) ∙ (sym eq
        ∙ ((its_target s h e k).is.stack_is ∙ stack-key s.stacks own st k.names.in_table)))

    were : (n : ℕ) (a : Row) → Found n a → a.stack ≡ st'.name → row_at s.rows n ≡ Some a
    were n a (is_old x eq) is = absurd (far (ap (λ (y : Row). y.stack) eq ∙ is))
    were n a (is_new x eq) is = absurd (far ((its_target s h e k).is.stack_is ∙ (ap (λ (y : Row). y.stack) eq ∙ is)))
    were n a (was x y at) is = at

    named : (j : ℕ) (node : Node) (a : Row) → IsNode (graph_of s name) j node → Found (row_of node) a
        → a.stack ≡ st'.name
    named j node a at (is_old x eq) = ap (λ (y : Row). y.stack) (sym eq)
        ∙ theirs s h name st' at_st j node r at (subst (λ (y : ℕ). row_at s.rows y ≡ Some r) x stood)
    named j node a at (is_new x eq) = let b = node_below s h name j node at in absurd (omega arith)
    named j node a at (was x y at_a) = theirs s h name st' at_st j node a at at_a

    elsewhere : Carries s t st' (graph_of s name)
    elsewhere = record {
      were = λ n a at is. (a, were n a (found n a at) is, Onward-same st'.trav a);
      theirs = λ j node a at at_a. named j node a at (found (row_of node) a at_a);
      targets = λ j n word o at f. record {
        row = o;
        found = at_was o.no o f.is.found
            (λ eq. far (ap (λ (y : Row). y.stack) (sym (is_r o f.is.found eq)) ∙ f.is.stack_is));
        onward = Onward-same st'.trav o;
        kept = f.kept;
        facts = λ done. refl;
      };
    }

  pub graph_replaced : GraphsFit t
  graph_replaced name st' at = elim (text_or_not name own) [
    | inl is ↦ mine is
    | inr ne ↦ graph_carried s t st' (graph_of s name) h.links.chained (elsewhere name st' at ne)
        (h.shape.graphs name st' at)
  ] where
    mine : name ≡ own → GraphFits t st' (graph_of t name)
    mine is =
        let same : st ≡ st' = same_some st st' k.names.in_table
        (subst (λ (x : List ℕ). stack_at s.stacks x ≡ Some st') is at) in
        subst (λ (x : List ℕ). GraphFits t st' (graph_of t x)) (sym is)
        (subst (λ (x : Stack). GraphFits t x g) same own_then)
