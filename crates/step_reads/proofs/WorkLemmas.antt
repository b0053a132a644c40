-- What a letter names is one stack, graph and node, so that where these have no work there is none.
use Rattle.std.proofs.Common.{◌≡◌, ◌≢◌, ◌↔◌, ℕ, List, false, None, Some, refl, sym, ◌∙◌, subst}
use Rattle.std.specs.Prelude.{IsSome, IsTrue, Option, slice_get}
use Rattle.heat_plan.specs.Tables.{at}
use Rattle.heat_plan.specs.declared.item.Item.{Item}
use Rattle.heat_plan.specs.declared.phase.Act.TheVariants.{Delete}
use Rattle.traversal_graph.specs.declared.shape.Node.{Node}
use Rattle.traversal_graph.specs.declared.shape.Node.TheVariants.{U}
use Rattle.row_table.specs.Rows.{row_at}
use Rattle.row_table.specs.declared.row.Row.{Row}
use Rattle.mail_table.specs.declared.mail.Letter.{Letter}
use Rattle.core_state.specs.Reads.{item_at}
use Rattle.core_state.specs.State.{StateData}
use Rattle.core_state.specs.declared.graph.Graph.{Graph}
use Rattle.core_state.specs.declared.stack.Stack.{Stack}
use Rattle.step_relation.specs.Freshness.{IsFresh, IsMeant, Names, Serves, plan_of, updates}
use Rattle.step_relation.specs.Targets.{IsTarget}
use Rattle.step_reads.specs.Rows.{HasNoTarget}
use Rattle.step_reads.specs.Work.{NamesNothing}
use Rattle.step_reads.proofs.TargetLemmas.{same_some, target_once}

module _ (s : StateData) (l : Letter) where
  stack_same : (st : Stack) (g : Graph) (n : Node) (st' : Stack) (g' : Graph) (n' : Node)
      → Names s l st g n → Names s l st' g' n' → st ≡ st'
  stack_same st g n st' g' n' a b = same_some st st' a.in_table b.in_table

  node_same : (st : Stack) (g : Graph) (n : Node) (st' : Stack) (g' : Graph) (n' : Node)
      → Names s l st g n → Names s l st' g' n' → n ≡ n'
  node_same st g n st' g' n' a b =
      let is : g ≡ g' = same_some g g' a.its_graph b.its_graph in
      same_some n n' (subst (λ (x : Graph). slice_get x.graph.nodes l.node ≡ Some n) is a.its_node) b.its_node

  pub names_no : (number : ℕ) → NamesNothing s l → ¬ IsFresh s l number
  names_no number none k = none k.stack k.graph k.node k.names

  pub serves_no : (st : Stack) (g : Graph) (n : Node) (number : ℕ) (row : Option Row) → Names s l st g n
      → row_at s.rows number ≡ row → ¬ Serves st n row → ¬ IsFresh s l number
  serves_no st g n number row names found not k =
      not (subst (λ (x : Stack). Serves x n row) (sym (stack_same st g n k.stack k.graph k.node names k.names))
      (subst (λ (x : Node). Serves k.stack x row) (sym (node_same st g n k.stack k.graph k.node names k.names))
      (subst (λ (x : Option Row). Serves k.stack k.node x) (sym k.found ∙ found) k.serves)))

  pub means_no : NamesNothing s l → ¬ IsMeant s l
  means_no none k = names_no k.target none k.fresh

  pub target_no : (st : Stack) (g : Graph) (n : Node) → Names s l st g n → HasNoTarget s.rows l.stack n → ¬ IsMeant s l
  target_no st g n names none k =
      none k.target (subst (λ (x : Node). IsTarget s.rows l.stack x k.target)
      (sym (node_same st g n k.fresh.stack k.fresh.graph k.fresh.node names k.fresh.names)) k.to)

  pub work_no : (st : Stack) (g : Graph) (n : Node) (t : ℕ) (row : Option Row) → Names s l st g n
      → IsTarget s.rows l.stack n t
      → row_at s.rows t ≡ row → ¬ Serves st n row → ¬ IsMeant s l
  work_no st g n t row names to found not k =
      let is : k.target ≡ t = target_once s.rows l.stack n k.target t
      (subst (λ (x : Node). IsTarget s.rows l.stack x k.target)
      (sym (node_same st g n k.fresh.stack k.fresh.graph k.fresh.node names k.fresh.names)) k.to) to in
      serves_no st g n t row names found not (subst (IsFresh s l) is k.fresh)

-- a stack without a plan asks for nothing
pub asked_none : (st : Stack) (name : List ℕ) → st.plan ≡ None
    → IsTrue false ↔ IsSome (item_at (plan_of st.plan).items name)
unfolding at
asked_none st name is = rw is ((λ t. cc), (λ t. cc))

-- a row that isn't at DELETE, of a name that the plan has
pub asked_serves : (st : Stack) (name : List ℕ) (chosen : ℕ) (r : Row) → IsSome (item_at (plan_of st.plan).items name)
    → r.act ≢ Delete → Serves st (U name chosen) (Some r)
asked_serves st name chosen r some kept = by (item_at (plan_of st.plan).items name) refl some where
  by : (o : Option Item) → item_at (plan_of st.plan).items name ≡ o → IsSome o → Serves st (U name chosen) (Some r)
  by None e none = cc
  by (Some item) e some = updates name chosen item r e kept
