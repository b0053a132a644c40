-- Who is told again, from the least node that waits.
use Rattle.std.proofs.Common.{◌≡◌, ◌<◌, ◌≤◌, ◌+◌, ◌⊎◌, inl, inr, ℕ, List, [], None, Some, refl, sym, ap, ◌∙◌, subst}
use Rattle.std.proofs.Common.{arith, length, get_or}
use Rattle.std.specs.Prelude.{Contains, Option, slice_get}
use Rattle.std.proofs.lemmas.Bool.{cases_lt}
use Rattle.std.proofs.lemmas.Option.{slice_get_read, slice_get_within}
use Rattle.dep_graph.specs.Lists.{IsLeast}
use Rattle.traversal_graph.specs.declared.shape.Node.{Node}
use Rattle.traversal_graph.specs.declared.shape.Node.TheVariants.{U}
use Rattle.row_table.specs.declared.row.Row.{Row}
use Rattle.core_state.specs.State.{StateData, graph_at, stack_at}
use Rattle.core_state.specs.declared.graph.Graph.{Graph}
use Rattle.core_state.specs.declared.stack.Stack.{Stack}
use Rattle.step_relation.specs.Resends.{AwaitsCleanup, AwaitsUpdate, HasGraph, IsOpen, Resends, cleanup, nobody, update}
use Rattle.step_relation.specs.Targets.{IsTarget, of_u}
use Rattle.step_reads.specs.Chains.{AreLeading}
use Rattle.step_reads.specs.Waiting.{IsLeastIf, IsOpenIf, IsResent, IsUpdateOf, update as update_of}
use Rattle.step_reads.proofs.TargetLemmas.{same_some}

module _ (s : StateData) (name : List ℕ) (number : ℕ) where
  pub no_graph : graph_at s.graphs name ≡ None → Resends s name number []
  no_graph none = nobody (λ st g k has. gone g has.its_graph) (λ st g k has. gone g has.its_graph) where
    gone : {P : Type 0} (g : Graph) → graph_at s.graphs name ≡ Some g → P
    gone g there = cc

  pub no_stack : stack_at s.stacks name ≡ None → Resends s name number []
  no_stack none = nobody (λ st g k has. gone st has.in_table) (λ st g k has. gone st has.in_table) where
    gone : {P : Type 0} (st : Stack) → stack_at s.stacks name ≡ Some st → P
    gone st there = cc

  pub update_resent : (st : Stack) (g : Graph) (i : ℕ) → stack_at s.stacks name ≡ Some st
      → graph_at s.graphs name ≡ Some g
      → IsLeast (AwaitsUpdate s st g number) i → IsResent s name number (Some i)
  update_resent st g i at_st at_g least =
      (st, at_st, update st g i (record { in_table = at_st; its_graph = at_g }) least)

  pub cleanup_resent : (st : Stack) (g : Graph) (o : Option ℕ) → stack_at s.stacks name ≡ Some st
      → graph_at s.graphs name ≡ Some g
      → ((k : ℕ) → ¬ AwaitsUpdate s st g number k) → IsLeastIf (AwaitsCleanup g number) o → IsResent s name number o
  cleanup_resent st g (Some i) at_st at_g none least =
      (st, at_st, cleanup st g i (record { in_table = at_st; its_graph = at_g }) none least)
  cleanup_resent st g None at_st at_g none neither = nobody no_update no_cleanup where
    no_update : (st' : Stack) (g' : Graph) (k : ℕ) → HasGraph s name st' g' → ¬ AwaitsUpdate s st' g' number k
    no_update st' g' k has awaits =
        none k (subst (λ (x : Stack). AwaitsUpdate s x g number k) (same_some st' st has.in_table at_st)
        (subst (λ (x : Graph). AwaitsUpdate s st' x number k) (same_some g' g has.its_graph at_g) awaits))

    no_cleanup : (st' : Stack) (g' : Graph) (k : ℕ) → HasGraph s name st' g' → ¬ AwaitsCleanup g' number k
    no_cleanup st' g' k has awaits =
        neither k (subst (λ (x : Graph). AwaitsCleanup x number k) (same_some g' g has.its_graph at_g) awaits)

-- the update nodes of a row
module _ (rows : List Row) (stack : List ℕ) (number : ℕ) (leading : List ℕ) (all : AreLeading rows number leading) where
  pub leads_update : (node : Node) (name : List ℕ) (chosen : ℕ) → node ≡ U name chosen → Contains leading chosen
      → IsUpdateOf rows stack node number
  leads_update node name chosen is c = update_of name chosen is (rw is (of_u name chosen number ((all chosen).0 c)))

-- an update node of the row, ready and not done, waits for it; and what waits is such a node
module _ (s : StateData) (st : Stack) (g : Graph) (number i : ℕ) (node : Node) (lt : i < length g.graph.nodes)
    (is : node ≡ get_or g.graph.nodes i node) where
  found : slice_get g.graph.nodes i ≡ Some node
  found = slice_get_read g.graph.nodes (length g.graph.nodes) i node refl lt is

  awaits_from : IsUpdateOf s.rows st.name node number → IsOpen g i → AwaitsUpdate s st g number i
  awaits_from (update_of name chosen e to) open_ = record {
    name = name;
    chosen = chosen;
    node = found ∙ ap (λ (x : Node). Some x) e;
    to = subst (λ (x : Node). IsTarget s.rows st.name x number) e to;
    open_ = open_;
  }

  awaits_update : AwaitsUpdate s st g number i → IsUpdateOf s.rows st.name node number
  awaits_update h =
      let some : Some node ≡ Some (U h.name h.chosen) = sym found ∙ h.node in
      let e : node ≡ U h.name h.chosen = cc in
      update_of h.name h.chosen e (subst (λ (x : Node). IsTarget s.rows st.name x number) (sym e) h.to)

  pub least_update : (n : ℕ) → IsUpdateOf s.rows st.name node number → IsOpenIf g i (Some n)
      → ((k : ℕ) → k < i → ¬ AwaitsUpdate s st g number k)
      → IsLeast (AwaitsUpdate s st g number) n
  least_update n its opens before = record {
    is = subst (AwaitsUpdate s st g number) (sym opens.0) (awaits_from its opens.1);
    least = λ other awaits. elim (cases_lt other n) [
      | inl low ↦ absurd (before other (omega (arith, low, opens.0)) awaits)
      | inr le ↦ le
    ];
  }

  pub no_update_here : ¬ IsUpdateOf s.rows st.name node number ⊎ ¬ IsOpen g i
      → ((k : ℕ) → k < i → ¬ AwaitsUpdate s st g number k)
      → (k : ℕ) → k < i + 1 → ¬ AwaitsUpdate s st g number k
  no_update_here not before k less awaits = elim (cases_lt k i) [
    | inl low ↦ before k low awaits
    | inr le ↦ (let same : k ≡ i = omega (arith, less, le) in here not (subst (AwaitsUpdate s st g number) same awaits))
  ]
    where
      here : ¬ IsUpdateOf s.rows st.name node number ⊎ ¬ IsOpen g i → AwaitsUpdate s st g number i → ⊥
      here (inl other) h = other (awaits_update h)
      here (inr shut) h = shut h.open_

pub no_update_at_all : (s : StateData) (st : Stack) (g : Graph) (number i : ℕ) → length g.graph.nodes ≤ i
    → ((k : ℕ) → k < i → ¬ AwaitsUpdate s st g number k) → (k : ℕ) → ¬ AwaitsUpdate s st g number k
no_update_at_all s st g number i le before k h =
    let lt : k < length g.graph.nodes = slice_get_within g.graph.nodes k (U h.name h.chosen) h.node in
    before k (omega (arith, lt, le)) h

pub target_in : (rows : List Row) (stack : List ℕ) (node : Node) (number : ℕ) → IsUpdateOf rows stack node number
    → IsTarget rows stack node number
target_in rows stack node number (update_of name chosen e to) = to
