-- What is asked for a row, and what its failure brings.
use Rattle.std.specs.Prelude.{List, None, Option, Some, [], map, unwrap_or, ℕ, ◌++◌, ◌∷◌, ◌≡◌, ◌≢◌}
use Rattle.heat_value.specs.Data.{Members}
use Rattle.heat_value.specs.declared.path.Step.{Step}
use Rattle.heat_plan.specs.declared.calls.Answered.{Answered}
use Rattle.heat_plan.specs.declared.calls.Request.{Request}
use Rattle.heat_plan.specs.declared.phase.Act.{Act}
use Rattle.heat_plan.specs.declared.phase.Act.TheVariants.{Create, Delete, Update}
use Rattle.heat_plan.specs.declared.phase.Status.TheVariants.{InProgress}
use Rattle.row_table.specs.Rows.{row_at}
use Rattle.row_table.specs.declared.row.Row.{Row}
use Rattle.mail_table.specs.declared.mail.Job.{Job}
use Rattle.mail_table.specs.declared.mail.Letter.{Letter}
use Rattle.mail_table.specs.declared.mail.Stage.{Stage}
use Rattle.core_state.specs.State.{StateData}
use Rattle.core_state.specs.declared.change.Change.{Change}
use Rattle.core_state.specs.declared.change.Change.TheVariants.{EndJob, PutRow, Send}
use Rattle.core_state.specs.declared.entry.Actor.TheVariants.{Engine}
use Rattle.core_state.specs.declared.entry.Cause.{Cause}
use Rattle.core_state.specs.declared.entry.Entry.{Entry}
use Rattle.core_state.specs.declared.entry.MailWrite.TheVariants.{Ended, Sent}
use Rattle.core_state.specs.declared.entry.RowWrite.TheVariants.{Set}
use Rattle.core_state.specs.declared.entry.Why.{Why}
use Rattle.core_state.specs.declared.stack.Stack.{Stack}
use Rattle.step_relation.specs.Freshness.{IsFresh, IsOverrun}
use Rattle.step_relation.specs.Nexts.{Works}
use Rattle.step_relation.specs.Resends.{Resends}
use Rattle.step_relation.specs.Rows.{failed_row}
use Rattle.step_relation.specs.Writes.{draw_letters, failed_mark, mail_entry, mark_failed, rows_entry}
use Rattle.heat_plan.specs.declared.calls.Answered.TheVariants as answer
use Rattle.heat_plan.specs.declared.calls.Request.TheVariants as request
use Rattle.core_state.specs.declared.entry.Why.TheVariants as why

-- a job at this stage with its row, which is under way
pub record Calls (s : StateData) (e : ℕ) (stage : Stage) : Type 0 where
  pub job : Job
  pub row : Row
  pub works : Works s e job stage
  pub found : row_at s.rows job.row ≡ Some row

-- what is asked by the row's act
pub data Asks (r : Row) : Request → Type 0 where
  creates : r.act ≡ Create → Asks r (request.Create r.kind.name r.props)
  updates : r.act ≡ Update → Asks r (request.Update (unwrap_or r.target r.props))
  deletes : r.act ≡ Delete → Asks r request.Delete

-- a row at DELETE is asked whether it is gone, and another how far it is
pub data Polls (r : Row) : Request → Type 0 where
  polls : r.act ≢ Delete → Polls r request.Poll
  looks : r.act ≡ Delete → Polls r request.Gone

-- the answer fails the request, for this reason
pub data Refuses (act : Act) : Request → Answered → Why → Type 0 where
  by_quota : (kind : List ℕ) (props : Members) → Refuses act (request.Create kind props) answer.Quota why.Quota
  by_failure : (asked : Request) → Refuses act asked answer.Failed (why.Failed act)
  by_code : (code : List ℕ) → Refuses act request.Poll (answer.Broken code) (why.Broken act code)

-- What the failure of a job brings: letters again where it is overrun; else the stack's mark, if it has none.
pub data Falls (s : StateData) (j : Job) : List Letter → Option Stack → Type 0 where
  overrun : (letters : List Letter) → IsOverrun s j → Resends s j.letter.stack j.row letters → Falls s j letters None
  marked : (k : IsFresh s j.letter j.row) → k.stack.status ≢ InProgress → Falls s j [] None
  marks : (k : IsFresh s j.letter j.row) → k.stack.status ≡ InProgress → Falls s j [] (Some k.stack)

-- the row failed, for this reason
abbrev pub cause_at : Row → Why → Cause
cause_at r reason = record { name = r.name; row = r.no; why = reason }

-- the item of this name can't be resolved, at its row
abbrev pub fault_of : List ℕ → ℕ → List ℕ → List Step → Cause
fault_of name number code path = record { name = name; row = number; why = why.Resolve code path }

-- the row is failed and unlocked, the job ends, and what follows from it
abbrev pub failed_changes : StateData → ℕ → Row → List Letter → Option Stack → List Change
failed_changes s e r letters failed =
    draw_letters s.next letters (PutRow (failed_row r) ∷ EndJob e ∷ (map Send letters ++ mark_failed failed))

-- what is told of it: the row, then the job and the letters, then the stack's mark with its cause
abbrev pub failed_entries : ℕ → Row → List Letter → Option Stack → Why → List Entry
failed_entries e r letters failed reason =
    rows_entry (Engine e) (Set (failed_row r) ∷ [])
    ++ (mail_entry (Engine e) (Ended e ∷ map Sent letters) ++ failed_mark (Engine e) failed (cause_at r reason))
