-- What a step finds in a sound state, by what is next for its engine.
use Rattle.std.specs.Prelude.{List, Some, slice_get, ℕ, ◌≡◌, ◌↔◌}
use Rattle.heat_plan.specs.declared.calls.Request.{Request}
use Rattle.heat_plan.specs.declared.phase.Status.TheVariants.{InProgress}
use Rattle.traversal_graph.specs.declared.shape.Node.{Node}
use Rattle.row_table.specs.Rows.{row_at}
use Rattle.row_table.specs.declared.row.Row.{Row}
use Rattle.sync_points.specs.declared.point.Point.{Point}
use Rattle.mail_table.specs.Mails.{job_at, letter_at}
use Rattle.mail_table.specs.declared.mail.Job.{Job}
use Rattle.mail_table.specs.declared.mail.Letter.{Letter}
use Rattle.mail_table.specs.declared.mail.Stage.{Stage}
use Rattle.mail_table.specs.declared.mail.Stage.TheVariants.{Asking, Polling}
use Rattle.core_state.specs.State.{StateData}
use Rattle.core_state.specs.declared.entry.Entry.{Entry}
use Rattle.core_state.specs.declared.graph.Graph.{Graph}
use Rattle.core_state.specs.declared.stack.Stack.{Stack}
use Rattle.history_laws.specs.Asks.{Asks, Polls}
use Rattle.history_laws.specs.Freshness.{IsOutdated, IsOverrun, Names}
use Rattle.history_laws.specs.Nexts.{Works}
use Rattle.history_laws.specs.Rows.{token_of}
use Rattle.history_laws.specs.Could.{could_of}
use Rattle.history_laws.specs.Opening.{Opening}
use Rattle.history_laws.specs.Headline.{MayBeAsked}
use Rattle.history_laws.specs.MailFits.{IsStale, IsUnderWay}
use Rattle.history_laws.specs.Sound.{Sound, Standing}
use Rattle.next_laws.specs.HasTurn.{HasWork}

-- what a job at this stage asks for its row
pub data IsAskedAt (r : Row) : Stage → Request → Type 0 where
  asks : (asked : Request) → Asks r asked → IsAskedAt r Asking asked
  polls : (asked : Request) → Polls r asked → IsAskedAt r Polling asked

-- the row of a job that asks or polls stands under way, and what is asked for it
pub record CallStands (s : StateData) (j : Job) (stage : Stage) : Type 0 where
  pub row : Row
  pub found : row_at s.rows j.row ≡ Some row
  pub status : row.status ≡ InProgress
  pub newest : row.trav ≡ j.letter.trav
  pub asked : Request
  pub is_asked : IsAskedAt row stage asked

-- a job that asks or polls has its row
abbrev pub CallsStand : Type 0
CallsStand = (s : StateData) (e : ℕ) (j : Job) (stage : Stage) → Standing s → IsUnderWay stage → Works s e j stage
    → CallStands s j stage

-- it is only asked what may be asked of its token, whatever state that may be in
abbrev pub CallsMayBeMade : Type 0
CallsMayBeMade = (o : Opening) (h : List Entry) (s : StateData) (e : ℕ) (j : Job) (r : Row) (stage : Stage)
    (asked : Request)
    → Sound o h s → Works s e j stage → row_at s.rows j.row ≡ Some r → IsAskedAt r stage asked
    → MayBeAsked (could_of o h (token_of r)) asked

-- a node that a letter or a job names has its point
abbrev pub PointsStand : Type 0
PointsStand = (s : StateData) (l : Letter) (st : Stack) (g : Graph) (node : Node) → Standing s → Names s l st g node
    → (p : Point) × (slice_get g.points l.node ≡ Some p)

-- a letter or a job has no work exactly where its stack is gone or has another traversal
pub record OldIsStale : Type 0 where
  pub letters : (s : StateData) (n : ℕ) (l : Letter) → Standing s → letter_at s.letters n ≡ Some l
      → IsOutdated s l ↔ IsStale s.stacks l
  pub jobs : (s : StateData) (e : ℕ) (j : Job) → Standing s → job_at s.jobs e ≡ Some j
      → IsOverrun s j ↔ IsStale s.stacks j.letter

-- so each job has what its next step needs
abbrev pub SoundHasWork : Type 0
SoundHasWork = (s : StateData) (e : ℕ) → Standing s → HasWork s e
