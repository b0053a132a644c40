-- Which letters and jobs still have work, and what it is.
use Rattle.std.specs.Prelude.{Contains, List, None, Option, Some, [], slice_get, ℕ, ◌<◌, ◌≡◌, ◌≢◌}
use Rattle.heat_value.specs.Data.{no_members}
use Rattle.heat_plan.specs.Plans.{PlanData}
use Rattle.heat_plan.specs.declared.item.Item.{Item}
use Rattle.heat_plan.specs.declared.phase.Act.TheVariants.{Delete}
use Rattle.traversal_graph.specs.declared.shape.Node.{Node}
use Rattle.traversal_graph.specs.declared.shape.Node.TheVariants.{C, U}
use Rattle.row_table.specs.Rows.{row_at}
use Rattle.row_table.specs.declared.row.Row.{Row}
use Rattle.mail_table.specs.declared.mail.Job.{Job}
use Rattle.mail_table.specs.declared.mail.Letter.{Letter}
use Rattle.core_state.specs.Reads.{item_at}
use Rattle.core_state.specs.State.{StateData, graph_at, stack_at}
use Rattle.core_state.specs.declared.graph.Graph.{Graph}
use Rattle.core_state.specs.declared.stack.Stack.{Stack}
use Rattle.step_relation.specs.Targets.{IsTarget}

-- the plan of a stack; that of a delete asks for nothing
abbrev pub plan_of : Option PlanData → PlanData
plan_of (Some plan) = plan
plan_of None = record { items = []; outputs = []; params = no_members; conds = []; files = []; absent = [] }

-- what the letter names in its stack's newest traversal
pub record Names (s : StateData) (l : Letter) (stack : Stack) (graph : Graph) (node : Node) : Type 0 where
  pub in_table : stack_at s.stacks l.stack ≡ Some stack
  pub newest : stack.trav ≡ l.trav
  pub its_graph : graph_at s.graphs l.stack ≡ Some graph
  pub its_node : slice_get graph.graph.nodes l.node ≡ Some node

-- an update node of a name in the plan works at a row that stands, not at DELETE; a clean-up node at its row, if any
pub data Serves (stack : Stack) : Node → Option Row → Type 0 where
  updates : (name : List ℕ) (chosen : ℕ) (item : Item) (r : Row) → item_at (plan_of stack.plan).items name ≡ Some item
      → r.act ≢ Delete → Serves stack (U name chosen) (Some r)
  cleans : (n : ℕ) (row : Option Row) → Serves stack (C n) row

-- the letter still has work at the row of this number
pub record IsFresh (s : StateData) (l : Letter) (number : ℕ) : Type 0 where
  pub stack : Stack
  pub graph : Graph
  pub node : Node
  pub row : Option Row
  pub names : Names s l stack graph node
  pub found : row_at s.rows number ≡ row
  pub serves : Serves stack node row

-- the letter has work, at its node's target
pub record IsMeant (s : StateData) (l : Letter) : Type 0 where
  pub target : ℕ
  pub fresh : IsFresh s l target
  pub to : IsTarget s.rows l.stack fresh.node target

-- The letter has no work: its stack is gone or has another traversal; or its node isn't in the graph; or its update
-- node's target doesn't stand or is at DELETE, or its name isn't one of the plan's.
abbrev pub IsOutdated : StateData → Letter → Type 0
IsOutdated s l = ¬ IsMeant s l

-- the same of a job, whose target is the row that it has
abbrev pub IsOverrun : StateData → Job → Type 0
IsOverrun s j = ¬ IsFresh s j.letter j.row

-- an engine's number was drawn, and it isn't live
pub record IsStopped (s : StateData) (e : ℕ) : Type 0 where
  pub drawn : e < s.next.engine
  pub ended : ¬ Contains s.live e
