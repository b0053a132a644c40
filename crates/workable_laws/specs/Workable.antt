-- What each step keeps of whatever image a book is opened with: what its changes need, and the engines' calls.
use Rattle.std.specs.Prelude.{Contains, IsSome, List, Some, slice_get, ℕ, ◌<◌, ◌≡◌, ◌≢◌}
use Rattle.heat_plan.specs.declared.phase.Act.{Act}
use Rattle.heat_plan.specs.declared.phase.Act.TheVariants.{Create, Delete, Init, Rollback, Update}
use Rattle.heat_plan.specs.declared.phase.Status.TheVariants.{Complete, InProgress}
use Rattle.heat_plan.specs.declared.token.Token.{Token}
use Rattle.provider.specs.Table.{TokenState}
use Rattle.traversal_graph.specs.declared.shape.Node.TheVariants.{C}
use Rattle.row_table.specs.Rows.{row_at}
use Rattle.row_table.specs.declared.row.Row.{Row}
use Rattle.mail_table.specs.Mails.{job_at, letter_at}
use Rattle.mail_table.specs.declared.mail.Job.{Job}
use Rattle.mail_table.specs.declared.mail.Letter.{Letter}
use Rattle.mail_table.specs.declared.mail.Stage.TheVariants.{Polling}
use Rattle.core_state.specs.State.{StateData, graph_at}
use Rattle.core_state.specs.declared.entry.Entry.{Entry}
use Rattle.core_state.specs.declared.graph.Graph.{Graph}
use Rattle.step_relation.specs.Rows.{token_of}
use Rattle.step_relation.specs.Could.{could_of}
use Rattle.step_relation.specs.Opening.{Opening}
use Rattle.step_relation.specs.Agrees.{IsGoing}
use Rattle.step_relation.specs.MailFits.{IsUnderWay}
use Rattle.step_relation.specs.Numbered.{EachOnce}
pub use Rattle.step_relation.specs.Images.{AreWhole, IsWhole}

-- the numbers that are drawn, and never again: those of rows, of jobs' and clean-up nodes' rows, of letters and engines
pub record Drawn (s : StateData) : Type 0 where
  pub rows : (n : ℕ) (r : Row) → row_at s.rows n ≡ Some r → n < s.next.row
  pub cleanups : (name : List ℕ) (g : Graph) (i n : ℕ) → graph_at s.graphs name ≡ Some g
      → slice_get g.graph.nodes i ≡ Some (C n)
      → n < s.next.row
  pub jobs : (e : ℕ) (j : Job) → job_at s.jobs e ≡ Some j → j.row < s.next.row
  pub holders : (e : ℕ) (j : Job) → job_at s.jobs e ≡ Some j → e < s.next.engine
  pub letters : (n : ℕ) (l : Letter) → letter_at s.letters n ≡ Some l → n < s.next.letter
  pub live : (e : ℕ) → Contains s.live e → e < s.next.engine
  pub released : (t : Token) → Contains s.released t → t.row < s.next.row

-- what a row is when something is asked for it
pub data IsCalledAct : Act → Type 0 where
  creates : IsCalledAct Create
  updates : IsCalledAct Update
  deletes : IsCalledAct Delete

-- the row of a job that asks or polls: it is under way
pub record IsCalled (s : StateData) (j : Job) : Type 0 where
  pub row : Row
  pub found : row_at s.rows j.row ≡ Some row
  pub status : row.status ≡ InProgress
  pub act : IsCalledAct row.act

-- a row's act is never ROLLBACK, and a row that is being updated has the properties that it is to get
pub record RowStands (r : Row) : Type 0 where
  pub act : r.act ≢ Rollback
  pub target : r.act ≡ Update → r.status ≡ InProgress → IsSome r.target

-- the rows, and those of jobs: never one for two engines, and under way where a live one asks or polls
pub record JobsStand (s : StateData) : Type 0 where
  pub apart : (e f : ℕ) (j k : Job) → job_at s.jobs e ≡ Some j → job_at s.jobs f ≡ Some k → j.row ≡ k.row → e ≡ f
  pub called : (e : ℕ) (j : Job) → Contains s.live e → job_at s.jobs e ≡ Some j → IsUnderWay j.stage → IsCalled s j
  pub rows : (n : ℕ) (r : Row) → row_at s.rows n ≡ Some r → RowStands r

-- the row's resource must be there: it is ready, or is being updated
pub data MustLive (r : Row) : Type 0 where
  ready : r.status ≡ Complete → r.act ≢ Init → r.act ≢ Delete → MustLive r
  updating : r.act ≡ Update → r.status ≡ InProgress → MustLive r

-- what a job that polls asks about: a resource that is there, or one that is gone or going
pub record MayPoll (act : Act) (state : TokenState) : Type 0 where
  pub there : act ≢ Delete → IsSome state
  pub going : act ≡ Delete → IsGoing state

-- what the cloud may have, by the history, fits the rows and the jobs of live engines
pub record CloudFits (o : Opening) (h : List Entry) (s : StateData) : Type 0 where
  pub lives : (n : ℕ) (r : Row) (x : TokenState) → row_at s.rows n ≡ Some r → MustLive r
      → Contains (could_of o h (token_of r)) x
      → IsSome x
  pub polled : (e : ℕ) (j : Job) (r : Row) (x : TokenState) → Contains s.live e → job_at s.jobs e ≡ Some j
      → j.stage ≡ Polling
      → row_at s.rows j.row ≡ Some r → Contains (could_of o h (token_of r)) x → MayPoll r.act x
  pub rowless : (t : Token) (r : Row) → Contains s.released t → row_at s.rows t.row ≡ Some r → token_of r ≢ t

-- what each step keeps of an image
pub record Workable (o : Opening) (h : List Entry) (s : StateData) : Type 0 where
  pub drawn : Drawn s
  pub once : EachOnce s.live
  pub graphs : AreWhole s
  pub jobs : JobsStand s
  pub cloud : CloudFits o h s
