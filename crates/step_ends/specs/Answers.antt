-- Which answers a call may have, by its row's act, and what follows from each.
use Rattle.std.specs.Prelude.{List, Some, [], ℕ, ◌∷◌, ◌≡◌, ◌≢◌}
use Rattle.heat_plan.specs.declared.calls.Answered.{Answered}
use Rattle.heat_plan.specs.declared.calls.Request.{Request}
use Rattle.heat_plan.specs.declared.facts.Facts.{Facts}
use Rattle.heat_plan.specs.declared.phase.Act.{Act}
use Rattle.heat_plan.specs.declared.phase.Act.TheVariants.{Create, Delete, Update}
use Rattle.heat_plan.specs.declared.refusal.Refusal.{Refusal}
use Rattle.heat_plan.specs.declared.refusal.Refusal.TheVariants.{Memory, Worn}
use Rattle.row_table.specs.Rows.{row_at}
use Rattle.row_table.specs.declared.row.Row.{Row}
use Rattle.mail_table.specs.declared.mail.Job.{Job}
use Rattle.mail_table.specs.declared.mail.Stage.{Stage}
use Rattle.mail_table.specs.declared.mail.Stage.TheVariants.{Ending, Polling}
use Rattle.core_state.specs.State.{StateData}
use Rattle.core_state.specs.declared.entry.Why.{Why}
use Rattle.core_state.specs.declared.made.Made.{Made}
use Rattle.step_relation.specs.Asks.{Asks, Polls}
use Rattle.step_relation.specs.Begins.{begun_changes, begun_entries, onward_changes, onward_entries}
use Rattle.step_relation.specs.Cleanups.{purged_changes, purged_entries}
use Rattle.step_relation.specs.Given.{Answer}
use Rattle.step_relation.specs.Nexts.{Works}
use Rattle.step_relation.specs.Rows.{ready_row}
use Rattle.step_relation.specs.Turns.{WearsOut}
use Rattle.step_relation.specs.Writes.{call_entry}
use Rattle.heat_plan.specs.declared.calls.Answered.TheVariants as answer
use Rattle.heat_plan.specs.declared.calls.Request.TheVariants as request
use Rattle.core_state.specs.declared.entry.Why.TheVariants as why

-- something is asked for the row
pub data IsAsking (act : Act) : Type 0 where
  creates : act ≡ Create → IsAsking act
  updates : act ≡ Update → IsAsking act
  deletes : act ≡ Delete → IsAsking act

-- what is asked may be begun or fail; a create may be past the quota
pub data AnswersAsk (act : Act) (given : Answered) : Type 0 where
  begun : IsAsking act → given ≡ answer.Begun → AnswersAsk act given
  failed : IsAsking act → given ≡ answer.Failed → AnswersAsk act given
  quota : act ≡ Create → given ≡ answer.Quota → AnswersAsk act given

-- a poll is told how far the resource is, and at a delete whether it is gone
pub data AnswersPoll (act : Act) (given : Answered) : Type 0 where
  not_yet : given ≡ answer.NotYet → AnswersPoll act given
  poll_failed : given ≡ answer.Failed → AnswersPoll act given
  ready : (facts : Facts) → act ≢ Delete → given ≡ answer.Ready facts → AnswersPoll act given
  broken : (code : List ℕ) → act ≢ Delete → given ≡ answer.Broken code → AnswersPoll act given
  gone : act ≡ Delete → given ≡ answer.Gone → AnswersPoll act given

-- the job and the row of a call
pub record IsCall (s : StateData) (e : ℕ) (stage : Stage) (job : Job) (row : Row) : Type 0 where
  pub works : Works s e job stage
  pub found : row_at s.rows job.row ≡ Some row

-- the answer fails what was asked
pub data IsFailing (given : Answered) : Type 0 where
  by_failure : given ≡ answer.Failed → IsFailing given
  by_quota : given ≡ answer.Quota → IsFailing given
  by_code : (code : List ℕ) → given ≡ answer.Broken code → IsFailing given

-- why a traversal fails by it
pub data IsReason (act : Act) (given : Answered) (reason : Why) : Type 0 where
  of_failure : given ≡ answer.Failed → reason ≡ why.Failed act → IsReason act given reason
  of_quota : given ≡ answer.Quota → reason ≡ why.Quota → IsReason act given reason
  of_code : (code : List ℕ) → given ≡ answer.Broken code → reason ≡ why.Broken act code → IsReason act given reason

-- the ask was begun: the job polls next
pub record IsBegun (e : ℕ) (j : Job) (r : Row) (made : Made) : Type 0 where
  pub asked : Request
  pub asks : Asks r asked
  pub changes : made.changes ≡ onward_changes j Polling
  pub entries : made.entries ≡ call_entry e r asked answer.Begun ∷ onward_entries e j Polling

-- what a poll told that didn't fail: not yet, ready, or gone
pub data IsTold (e : ℕ) (j : Job) (r : Row) (given : Answered) (made : Made) : Type 0 where
  waits : (asked : Request) → Polls r asked → given ≡ answer.NotYet
      → made.changes ≡ []
      → made.entries ≡ call_entry e r asked answer.NotYet ∷ []
      → IsTold e j r given made
  readies : (facts : Facts) → given ≡ answer.Ready facts
      → made.changes ≡ begun_changes j Ending (ready_row r facts)
      → made.entries ≡ call_entry e r request.Poll (answer.Ready facts) ∷ begun_entries e j Ending (ready_row r facts)
      → IsTold e j r given made
  goes : given ≡ answer.Gone
      → made.changes ≡ purged_changes j r
      → made.entries ≡ call_entry e r request.Gone answer.Gone ∷ purged_entries e j r
      → IsTold e j r given made

-- no answer of the engine's call would wear anything out
abbrev pub CallLasts : StateData → ℕ → Type 0
CallLasts s e = (given : Answered) → ¬ WearsOut s e (Answer given)

-- want of memory, or each answer of the call would
pub data IsCallRefusal (s : StateData) (e : ℕ) (r : Refusal) : Type 0 where
  memory : r ≡ Memory → IsCallRefusal s e r
  worn : r ≡ Worn → ((given : Answered) → WearsOut s e (Answer given)) → IsCallRefusal s e r
