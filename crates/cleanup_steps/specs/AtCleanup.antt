-- The begin of a clean-up node.
use Rattle.std.specs.Prelude.{Some, ℕ, ◌≡◌}
use Rattle.traversal_graph.specs.declared.shape.Node.TheVariants.{C}
use Rattle.row_table.specs.Rows.{row_at}
use Rattle.row_table.specs.declared.row.Row.{Row}
use Rattle.mail_table.specs.declared.mail.Job.{Job}
use Rattle.mail_table.specs.declared.mail.Stage.TheVariants.{Taken}
use Rattle.core_state.specs.State.{StateData}
use Rattle.core_state.specs.declared.graph.Graph.{Graph}
use Rattle.core_state.specs.declared.stack.Stack.{Stack}
use Rattle.step_relation.specs.Freshness.{Names}
use Rattle.step_relation.specs.Nexts.{Works}

-- the engine's job, at Taken at a clean-up node of its stack's newest traversal
pub record AtCleanup (s : StateData) (e : ℕ) (job : Job) : Type 0 where
  pub stack : Stack
  pub graph : Graph
  pub number : ℕ
  pub works : Works s e job Taken
  pub names : Names s job.letter stack graph (C number)

-- the same with this stack, and with this row, which stands
pub record AtRow (s : StateData) (e : ℕ) (job : Job) (stack : Stack) (row : Row) : Type 0 where
  pub graph : Graph
  pub number : ℕ
  pub works : Works s e job Taken
  pub names : Names s job.letter stack graph (C number)
  pub found : row_at s.rows job.row ≡ Some row
