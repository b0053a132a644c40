-- Every engine has a next step.
use Rattle.std.specs.Prelude.{Contains, List, Some, slice_get, ℕ, ◌≡◌, ◌⊎◌}
use Rattle.heat_plan.specs.declared.calls.Request.{Request}
use Rattle.traversal_graph.specs.declared.shape.Node.{Node}
use Rattle.row_table.specs.Rows.{row_at}
use Rattle.row_table.specs.declared.row.Row.{Row}
use Rattle.sync_points.specs.declared.point.Point.{Point}
use Rattle.mail_table.specs.Mails.{job_at}
use Rattle.mail_table.specs.declared.mail.Job.{Job}
use Rattle.mail_table.specs.declared.mail.Stage.TheVariants.{Asking, Polling}
use Rattle.core_state.specs.State.{StateData}
use Rattle.core_state.specs.declared.change.Change.{Change}
use Rattle.core_state.specs.declared.entry.Entry.{Entry}
use Rattle.core_state.specs.declared.graph.Graph.{Graph}
use Rattle.core_state.specs.declared.stack.Stack.{Stack}
use Rattle.history_laws.specs.Asks.{Asks}
use Rattle.history_laws.specs.Freshness.{Names}
use Rattle.history_laws.specs.Given.{Given}
use Rattle.history_laws.specs.Nexts.{IsIdle}
use Rattle.history_laws.specs.Turns.{Turn}
use Rattle.next_laws.specs.Suits.{Suits}

-- whatever the state: what suits an engine's next step makes a turn of it
abbrev pub TurnExists : Type 0
TurnExists = (s : StateData) (e : ℕ) (given : Given) → Suits s e given → (cs : List Change) × (es : List Entry)
    × Turn s e given cs es

-- a job that asks has a row that something is asked for
pub record IsAskable (s : StateData) (j : Job) : Type 0 where
  pub row : Row
  pub found : row_at s.rows j.row ≡ Some row
  pub asked : Request
  pub asks : Asks row asked

-- what an engine's job has, if it has one: the point of its node, and a row where it asks or polls
pub record HasWork (s : StateData) (e : ℕ) : Type 0 where
  pub points : (j : Job) (st : Stack) (g : Graph) (node : Node) → job_at s.jobs e ≡ Some j → Names s j.letter st g node
      → (p : Point) × (slice_get g.points j.letter.node ≡ Some p)
  pub asking : (j : Job) → job_at s.jobs e ≡ Some j → j.stage ≡ Asking → IsAskable s j
  pub polling : (j : Job) → job_at s.jobs e ≡ Some j → j.stage ≡ Polling → (r : Row) × (row_at s.rows j.row ≡ Some r)

-- each live engine has a step for something that suits it, or is idle, and never both
pub record StepsOrIsIdle (s : StateData) (e : ℕ) : Type 0 where
  pub either : ((given : Given) × Suits s e given) ⊎ IsIdle s e
  pub apart : (given : Given) → Suits s e given → ¬ IsIdle s e

-- so it is where its job has what it works at
abbrev pub NextExists : Type 0
NextExists = (s : StateData) (e : ℕ) → HasWork s e → Contains s.live e → StepsOrIsIdle s e
