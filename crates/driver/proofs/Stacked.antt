-- What one stack stands for.
use Rattle.std.proofs.Common.{ap, arith, get_or, refl, subst, sym, ◌∙◌}
use Rattle.std.specs.Prelude.{List, None, Some, length, slice_get, ℕ, ◌*◌, ◌+◌, ◌<◌, ◌≡◌, ◌≤◌}
use Rattle.std.proofs.lemmas.Option.{slice_get-get_or, slice_get_within}
use Rattle.traversal_graph.specs.declared.shape.Node.{Node}
use Rattle.traversal_graph.specs.declared.shape.Node.TheVariants.{C, U}
use Rattle.row_table.specs.Rows.{row_at}
use Rattle.row_table.specs.declared.row.Row.{Row}
use Rattle.core_state.specs.State.{StateData, graph_at, stack_at}
use Rattle.core_state.specs.declared.graph.Graph.{Graph}
use Rattle.core_state.specs.declared.past.Past.{Past}
use Rattle.core_state.specs.declared.stack.Stack.{Stack}
use Rattle.step_relation.specs.Freshness.{plan_of}
use Rattle.step_relation.specs.Orders.{past_of, plan_back}
use Rattle.step_relation.specs.Targets.{IsTarget}
use Rattle.step_reads.specs.Rows.{HasNoTarget}
use Rattle.history_laws.proofs.tables.Rows.{row-key, same_some}
use Rattle.history_laws.proofs.tables.Targets.{target_once}
use Rattle.bound_laws.specs.Counts.{Counts}
use Rattle.bound_laws.specs.Rolls.{MayRoll, RollFar, RollItem, RollNode}
use Rattle.bound_laws.specs.Work.{IsUnready}
use Rattle.bound_laws.proofs.Marked.{back_open}
use Rattle.driver.specs.Parts.{HasFarRow, IsFarNode, IsOne, IsUnreadyIn, StackWork, none, one}
use Rattle.driver.proofs.Ones.{all_below, no_kind, same_kind, same_one}

module _ (s : StateData) (st : Stack) (its : stack_at s.stacks st.name ≡ Some st) where
  -- the nodes of its graph
  pub nodes_here : (g : Graph) (n : ℕ) → graph_at s.graphs st.name ≡ Some g → Counts (IsUnreadyIn g) n
      → Counts (λ (i : ℕ). IsUnready s (st.name, i)) n
  nodes_here g n found c = same_kind n c there back where
    there : (i : ℕ) → IsUnreadyIn g i → IsUnready s (st.name, i)
    there i k = record {
      stack = st;
      graph = g;
      node = get_or g.graph.nodes i (C 0);
      in_table = its;
      its_graph = found;
      its_node = slice_get-get_or g.graph.nodes i (C 0) k.within;
      unready = k.unready;
      undone = k.undone;
    }

    back : (i : ℕ) → IsUnready s (st.name, i) → IsUnreadyIn g i
    back i k = subst (λ (h : Graph). IsUnreadyIn h i) (same_some k.graph g k.its_graph found)
        (record {
          within = slice_get_within k.graph.graph.nodes i k.node k.its_node;
          unready = k.unready;
          undone = k.undone;
        })

  pub no_nodes : graph_at s.graphs st.name ≡ None → Counts (λ (i : ℕ). IsUnready s (st.name, i)) 0
  no_nodes nowhere = no_kind (λ i k. let there = k.its_graph in let gone = nowhere in cc)

  pub open_work : (nodes items far : ℕ) → MayRoll s st.name st → Counts (λ (i : ℕ). IsUnready s (st.name, i)) nodes
      → items ≡ length (plan_back s st).items → Counts (λ (i : ℕ). RollFar s (st.name, i)) far
      → StackWork s st.name (69 * nodes + 69 * (nodes + items + far))
  open_work nodes items far may nodes_are items_are far_are = record {
    nodes = nodes;
    rolls = nodes;
    items = items;
    far = far;
    nodes_are = nodes_are;
    rolls_are = same_kind nodes nodes_are (λ i k. record { stack = st; may = may; node = k }) (λ i k. k.node);
    items_are = all_below (λ (i : ℕ). RollItem s (st.name, i)) items within each;
    far_are = far_are;
    sum = refl;
  } where
    within : (i : ℕ) → RollItem s (st.name, i) → i < items
    within i k =
        let lt = subst (λ (x : Stack). i < length (plan_back s x).items)
        (same_some k.stack st k.may.in_table its) k.within in
        omega (arith, lt, items_are)

    each : (i : ℕ) → i < items → RollItem s (st.name, i)
    each i lt = record { stack = st; may = may; within = omega (arith, lt, items_are) }

  pub closed_work : (nodes : ℕ) → ((x : Stack) → ¬ MayRoll s st.name x)
      → Counts (λ (i : ℕ). IsUnready s (st.name, i)) nodes
      → StackWork s st.name (69 * nodes)
  closed_work nodes never nodes_are = record {
    nodes = nodes;
    rolls = 0;
    items = 0;
    far = 0;
    nodes_are = nodes_are;
    rolls_are = no_kind (λ i k. never k.stack k.may);
    items_are = no_kind (λ i k. never k.stack k.may);
    far_are = no_kind (λ i k. never k.stack k.may);
    sum = omega arith;
  }

-- the stack of that name is this one
pub same_may : (s : StateData) (st x : Stack) → stack_at s.stacks st.name ≡ Some st → MayRoll s st.name x
    → MayRoll s st.name st
same_may s st x its may = subst (MayRoll s st.name) (same_some x st may.in_table its) may

-- the plan that it would go back to
pub back_is : (s : StateData) (st : Stack) (p : Past) → MayRoll s st.name st → past_of s st.name ≡ p
    → plan_of p.back ≡ plan_back s st
back_is s st p may is = ap plan_of
    (ap (λ (x : Past). x.back) (sym is) ∙ sym (back_open st (past_of s st.name) may.unmarked))

module _ (s : StateData) (st : Stack) (g : Graph) (found : graph_at s.graphs st.name ≡ Some g) where
  -- a node of its graph
  pub far_here : (i n : ℕ) (node : Node) → MayRoll s st.name st → (nodes : List Node) → nodes ≡ g.graph.nodes
      → i < length nodes
      → node ≡ get_or nodes i node → IsOne (IsFarNode s st node) n → IsOne (RollFar s (st.name, i)) n
  far_here i n node may nodes are lt place far = same_one n far there back where
    node_at : slice_get g.graph.nodes i ≡ Some node
    node_at = subst (λ (all : List Node). slice_get all i ≡ Some node) are
        (slice_get-get_or nodes i node lt ∙ ap (λ (x : Node). Some x) (sym place))

    there : IsFarNode s st node → RollFar s (st.name, i)
    there k =
        let key : k.has.row.no ≡ k.target = row-key s.rows k.target k.has.row k.has.found in
        record {
          stack = st;
          may = may;
          graph = g;
          name = k.name;
          chosen = k.chosen;
          row = k.has.row;
          its_graph = found;
          its_node = node_at ∙ ap (λ (x : Node). Some x) k.update;
          to = subst (IsTarget s.rows st.name (U k.name k.chosen)) (sym key)
              (subst (λ (x : Node). IsTarget s.rows st.name x k.target) k.update k.to);
          found = subst (λ (m : ℕ). row_at s.rows m ≡ Some k.has.row) (sym key) k.has.found;
          far = k.has.far;
        }

    back : RollFar s (st.name, i) → IsFarNode s st node
    back k =
        let same = same_some k.graph g k.its_graph found in
        let update : node ≡ U k.name k.chosen = same_some node (U k.name k.chosen) node_at
        (subst (λ (h : Graph). slice_get h.graph.nodes i ≡ Some (U k.name k.chosen)) same k.its_node) in
        record {
          name = k.name;
          chosen = k.chosen;
          target = k.row.no;
          update = update;
          to = subst (λ (x : Node). IsTarget s.rows st.name x k.row.no) (sym update) k.to;
          has = subst (λ (x : Stack). HasFarRow s x k.row.no) (same_some k.stack st k.may.in_table may.in_table)
              (record { row = k.row; found = k.found; far = k.far });
        }

  -- each stands within it
  pub far_within : (b : ℕ) (nodes : List Node) → nodes ≡ g.graph.nodes → length nodes ≤ b → (i : ℕ)
      → RollFar s (st.name, i) → i < b
  far_within b nodes are all i k =
      let lt = slice_get_within k.graph.graph.nodes i (U k.name k.chosen) k.its_node in
      let same = ap (λ (h : Graph). length h.graph.nodes) (same_some k.graph g k.its_graph found) in
      let long = ap (λ (l : List Node). length l) are in
      omega (arith, lt, same, long, all)

module _ (s : StateData) (st : Stack) (node : Node) where
  -- one with a target, without one, and one of another sort
  pub far_target : (name : List ℕ) (chosen t n : ℕ) → node ≡ U name chosen → IsTarget s.rows st.name node t
      → IsOne (HasFarRow s st t) n
      → IsOne (IsFarNode s st node) n
  far_target name chosen t n update to far = same_one n far
      (λ has. record { name = name; chosen = chosen; target = t; update = update; to = to; has = has })
      (λ k. subst (HasFarRow s st) (target_once s.rows st.name node k.target t k.to to) k.has)

  pub far_nowhere : HasNoTarget s.rows st.name node → IsOne (IsFarNode s st node) 0
  far_nowhere nowhere = none (λ k. nowhere k.target k.to) refl

  pub far_never : (m : ℕ) → node ≡ C m → IsOne (IsFarNode s st node) 0
  far_never m is = none (λ k. let update : C m ≡ U k.name k.chosen = sym is ∙ k.update in cc) refl
