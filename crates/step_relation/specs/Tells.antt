-- The history tells the state's stacks, rows and marks.
use Rattle.std.specs.Prelude.{Contains, List, None, Some, [], ℕ, ◌++◌, ◌<◌, ◌∷◌, ◌≡◌, ◌≢◌}
use Rattle.heat_plan.specs.declared.calls.Answered.{Answered}
use Rattle.heat_plan.specs.declared.calls.Request.{Request}
use Rattle.heat_plan.specs.declared.item.Policy.TheVariants.{Retain}
use Rattle.heat_plan.specs.declared.phase.Act.TheVariants.{Delete}
use Rattle.heat_plan.specs.declared.phase.Status.{Status}
use Rattle.heat_plan.specs.declared.phase.Status.TheVariants.{Complete, Failed, InProgress}
use Rattle.heat_plan.specs.declared.token.Token.{Token}
use Rattle.row_table.specs.Rows.{row_at}
use Rattle.row_table.specs.declared.row.Row.{Row}
use Rattle.mail_table.specs.Mails.{job_at}
use Rattle.mail_table.specs.declared.mail.Job.{Job}
use Rattle.core_state.specs.State.{StateData, stack_at}
use Rattle.core_state.specs.declared.entry.Actor.TheVariants.{Engine}
use Rattle.core_state.specs.declared.entry.Entry.{Entry}
use Rattle.core_state.specs.declared.stack.Stack.{Stack}
use Rattle.step_relation.specs.Orders.{past_of, plan_back}
use Rattle.step_relation.specs.Rows.{token_of}
use Rattle.step_relation.specs.Writes.{entry_of}
use Rattle.step_relation.specs.Last.{IsLast}
use Rattle.step_relation.specs.Marked.{Completed, FailedFor, Mark, Marked, Unmarked, mark_of, marked_of}
use Rattle.step_relation.specs.Newest.{Latest, latest_of, newest, rollback_of}
use Rattle.step_relation.specs.Opening.{Opening}
use Rattle.step_relation.specs.Stored.{released, stored}
use Rattle.step_relation.specs.MailFits.{IsUnderWay}
use Rattle.core_state.specs.declared.entry.What.TheVariants as what

-- the status that a mark gives
abbrev pub status_by : Mark → Status
status_by Unmarked = InProgress
status_by Completed = Complete
status_by (FailedFor cause) = Failed

-- what the history tells of a stack that stands
pub record TellsStack (o : Opening) (h : List Entry) (s : StateData) (st : Stack) : Type 0 where
  pub traversal : newest o h st.name ≡ Some (latest_of st)
  pub marked : Marked
  pub is_marked : marked_of o h st.name ≡ Some marked
  pub trav : marked.trav ≡ st.trav
  pub status : status_by marked.mark ≡ st.status
  pub rollback : rollback_of o h st.name ≡ (past_of s st.name).rollback
  pub last : st.act ≢ Delete → IsLast o h st.name (plan_back s st)

-- a name without a stack: nothing was commanded, or a delete that is complete
pub data IsGone (o : Opening) (h : List Entry) (name : List ℕ) : Type 0 where
  never : newest o h name ≡ None → mark_of o h name ≡ None → IsGone o h name
  deleted : (it : Latest) → newest o h name ≡ Some it → it.act ≡ Delete → it.plan ≡ None
      → mark_of o h name ≡ Some Completed
      → IsGone o h name

-- an engine's job that asks or polls
pub record IsCalling (s : StateData) (e : ℕ) : Type 0 where
  pub job : Job
  pub its : job_at s.jobs e ≡ Some job
  pub stage : IsUnderWay job.stage

-- the history tells the rows, the tokens given up, and each name's stack or its lack; a last call is under way
pub record Tells (o : Opening) (h : List Entry) (s : StateData) : Type 0 where
  pub rows : stored o h ≡ s.rows
  pub tokens : released o h ≡ s.released
  pub stacks : (name : List ℕ) (st : Stack) → stack_at s.stacks name ≡ Some st → TellsStack o h s st
  pub gone : (name : List ℕ) → stack_at s.stacks name ≡ None → IsGone o h name
  -- where the history ends with a call, its engine's job is still at it
  pub calling : (before : List Entry) (e : ℕ) (token : Token) (request : Request) (given : Answered)
      → h ≡ before ++ entry_of (Engine e) (what.Call token request given) ∷ [] → IsCalling s e

-- a call for the token
abbrev pub IsCallFor : Token → Entry → Type 0
IsCallFor t e = (request : Request) × (given : Answered) × (e.what ≡ what.Call t request given)

-- a given-up token is no row's, and is called no more
pub record ReleasedFits (o : Opening) (h : List Entry) (s : StateData) : Type 0 where
  pub below : (t : Token) → Contains s.released t → t.row < s.next.row
  pub rowless : (t : Token) (r : Row) → Contains s.released t → row_at s.rows t.row ≡ Some r → token_of r ≢ t
  pub uncalled : (before after : List Entry) (t : Token) (e : Entry) → h ≡ before ++ after
      → Contains (released o before) t
      → Contains after e → ¬ IsCallFor t e
  pub kept : (n : ℕ) (r : Row) → row_at s.rows n ≡ Some r → r.act ≡ Delete → r.policy ≢ Retain
