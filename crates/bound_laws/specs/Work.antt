-- What stands for turns that are still to come: letters, nodes, and jobs.
use Rattle.std.specs.Prelude.{Contains, List, Some, slice_get, ℕ, ◌+◌, ◌<◌, ◌≡◌}
use Rattle.heat_plan.specs.declared.token.Token.{Token}
use Rattle.traversal_graph.specs.declared.shape.Node.{Node}
use Rattle.row_table.specs.Rows.{row_at}
use Rattle.row_table.specs.declared.row.Row.{Row}
use Rattle.mail_table.specs.Mails.{job_at, letter_at}
use Rattle.mail_table.specs.declared.mail.Job.{Job}
use Rattle.mail_table.specs.declared.mail.Letter.{Letter}
use Rattle.mail_table.specs.declared.mail.Stage.{Stage}
use Rattle.mail_table.specs.declared.mail.Stage.TheVariants.{Polling}
use Rattle.core_state.specs.Reads.{IsDone, IsReady}
use Rattle.core_state.specs.State.{StateData, graph_at, stack_at}
use Rattle.core_state.specs.declared.graph.Graph.{Graph}
use Rattle.core_state.specs.declared.stack.Stack.{Stack}
use Rattle.step_relation.specs.Rows.{token_of}
use Rattle.step_relation.specs.MailFits.{IsStale}

-- a letter of this number waits
pub record IsLetter (s : StateData) (n : ℕ) : Type 0 where
  pub letter : Letter
  pub at : letter_at s.letters n ≡ Some letter

-- a node of a stack's graph, by the stack's name and its place, that is neither ready nor done
pub record IsUnready (s : StateData) (x : List ℕ × ℕ) : Type 0 where
  pub stack : Stack
  pub graph : Graph
  pub node : Node
  pub in_table : stack_at s.stacks x.0 ≡ Some stack
  pub its_graph : graph_at s.graphs x.0 ≡ Some graph
  pub its_node : slice_get graph.graph.nodes x.1 ≡ Some node
  pub unready : ¬ IsReady graph x.1
  pub undone : ¬ IsDone graph x.1

-- an engine that was stopped has a job
pub record IsLeft (s : StateData) (e : ℕ) : Type 0 where
  pub job : Job
  pub its : job_at s.jobs e ≡ Some job
  pub stopped : ¬ Contains s.live e

-- a live engine has a job at this stage
pub record IsAt (stage : Stage) (s : StateData) (e : ℕ) : Type 0 where
  pub job : Job
  pub its : job_at s.jobs e ≡ Some job
  pub live : Contains s.live e
  pub stage_is : job.stage ≡ stage

-- a live engine has a job of another traversal than its stack's newest
pub record IsLate (s : StateData) (e : ℕ) : Type 0 where
  pub job : Job
  pub its : job_at s.jobs e ≡ Some job
  pub live : Contains s.live e
  pub stale : IsStale s.stacks job.letter

-- a poll that a live engine's job may still make, by its engine and its place: so many as are left for its token, and
-- two
pub record IsPoll (left : Token → ℕ) (s : StateData) (x : ℕ × ℕ) : Type 0 where
  pub at : IsAt Polling s x.0
  pub row : Row
  pub found : row_at s.rows at.job.row ≡ Some row
  pub below : x.1 < left (token_of row) + 2
