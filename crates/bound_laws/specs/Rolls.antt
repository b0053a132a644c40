-- What stands besides for the turns of a rollback that may still come.
use Rattle.std.specs.Prelude.{List, Some, length, slice_get, true, ℕ, ◌<◌, ◌≡◌, ◌≢◌, ◌⊎◌}
use Rattle.heat_plan.specs.declared.phase.Act.TheVariants.{Init}
use Rattle.heat_plan.specs.declared.phase.Status.TheVariants.{InProgress}
use Rattle.traversal_graph.specs.declared.shape.Node.TheVariants.{U}
use Rattle.row_table.specs.Rows.{row_at}
use Rattle.row_table.specs.declared.row.Row.{Row}
use Rattle.mail_table.specs.Mails.{job_at, letter_at}
use Rattle.mail_table.specs.declared.mail.Job.{Job}
use Rattle.mail_table.specs.declared.mail.Letter.{Letter}
use Rattle.core_state.specs.State.{StateData, graph_at, stack_at}
use Rattle.core_state.specs.declared.graph.Graph.{Graph}
use Rattle.core_state.specs.declared.stack.Stack.{Stack}
use Rattle.step_relation.specs.Orders.{past_of, plan_back}
use Rattle.step_relation.specs.Targets.{IsTarget}
use Rattle.bound_laws.specs.Work.{IsUnready}

-- the stack has no mark, and its rollback is on
pub record MayRoll (s : StateData) (name : List ℕ) (st : Stack) : Type 0 where
  pub in_table : stack_at s.stacks name ≡ Some st
  pub unmarked : st.status ≡ InProgress
  pub rollback : (past_of s name).rollback ≡ true

-- of each such stack: a letter of its newest traversal
pub record RollLetter (s : StateData) (n : ℕ) : Type 0 where
  pub letter : Letter
  pub at : letter_at s.letters n ≡ Some letter
  pub stack : Stack
  pub may : MayRoll s letter.stack stack
  pub newest : letter.trav ≡ stack.trav

-- a node of its graph that is neither ready nor done
pub record RollNode (s : StateData) (x : List ℕ × ℕ) : Type 0 where
  pub stack : Stack
  pub may : MayRoll s x.0 stack
  pub node : IsUnready s x

-- a job on it
pub record RollJob (s : StateData) (e : ℕ) : Type 0 where
  pub job : Job
  pub its : job_at s.jobs e ≡ Some job
  pub stack : Stack
  pub may : MayRoll s job.letter.stack stack

-- an item of the plan that it would go back to, by its place
pub record RollItem (s : StateData) (x : List ℕ × ℕ) : Type 0 where
  pub stack : Stack
  pub may : MayRoll s x.0 stack
  pub within : x.1 < length (plan_back s stack).items

-- a row of it
pub record RollRow (s : StateData) (n : ℕ) : Type 0 where
  pub row : Row
  pub found : row_at s.rows n ≡ Some row
  pub stack : Stack
  pub may : MayRoll s row.stack stack

-- an update node of its graph whose target is at INIT or has another traversal
pub record RollFar (s : StateData) (x : List ℕ × ℕ) : Type 0 where
  pub stack : Stack
  pub may : MayRoll s x.0 stack
  pub graph : Graph
  pub name : List ℕ
  pub chosen : ℕ
  pub row : Row
  pub its_graph : graph_at s.graphs x.0 ≡ Some graph
  pub its_node : slice_get graph.graph.nodes x.1 ≡ Some (U name chosen)
  pub to : IsTarget s.rows x.0 (U name chosen) row.no
  pub found : row_at s.rows row.no ≡ Some row
  pub far : (row.act ≡ Init) ⊎ (row.trav ≢ stack.trav)
