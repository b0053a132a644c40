-- One turn of an engine but for the rollback that a failure may bring: a case for each line of the table of turns.
use Rattle.std.specs.Prelude.{Contains, List, None, Option, Some, [], ℕ, ◌++◌, ◌∷◌, ◌≡◌, ◌≢◌}
use Rattle.heat_value.specs.Data.{Members}
use Rattle.heat_value.specs.declared.path.Step.{Step}
use Rattle.heat_plan.specs.declared.calls.Answered.{Answered}
use Rattle.heat_plan.specs.declared.calls.Request.{Request}
use Rattle.heat_plan.specs.declared.facts.Facts.{Facts}
use Rattle.heat_plan.specs.declared.item.Policy.TheVariants.{Retain}
use Rattle.heat_plan.specs.declared.phase.Act.TheVariants.{Delete, Init}
use Rattle.heat_plan.specs.declared.phase.Status.TheVariants.{Complete, Failed, InProgress}
use Rattle.row_table.specs.Rows.{row_at}
use Rattle.row_table.specs.declared.row.Row.{Row}
use Rattle.mail_table.specs.declared.mail.Job.{Job}
use Rattle.mail_table.specs.declared.mail.Letter.{Letter}
use Rattle.mail_table.specs.declared.mail.Stage.TheVariants.{Asking, Ending, Polling, Taken}
use Rattle.core_state.specs.State.{StateData}
use Rattle.core_state.specs.declared.change.Change.{Change}
use Rattle.core_state.specs.declared.change.Change.TheVariants.{Drop, EndJob, PutJob}
use Rattle.core_state.specs.declared.entry.Actor.TheVariants.{Engine}
use Rattle.core_state.specs.declared.entry.Entry.{Entry}
use Rattle.core_state.specs.declared.entry.MailWrite.TheVariants.{Dropped, Ended, Held}
use Rattle.core_state.specs.declared.entry.Why.{Why}
use Rattle.core_state.specs.declared.stack.Stack.{Stack}
use Rattle.type_catalog.specs.declared.effect.Effect.{Effect}
use Rattle.step_relation.specs.Asks.{Asks, Calls, Falls, Polls, Refuses, failed_changes, failed_entries, fault_of}
use Rattle.step_relation.specs.Begins.{Begins, IsSame, IsSoft, MustGo, begun_changes, begun_entries, left_changes}
use Rattle.step_relation.specs.Begins.{left_entries, onward_changes, onward_entries, replaced_changes, replaced_entries}
use Rattle.step_relation.specs.Cleanups.{Cleans, IsKept, IsStuck, purged_changes, purged_entries, retained_changes}
use Rattle.step_relation.specs.Cleanups.{retained_entries}
use Rattle.step_relation.specs.Finishes.{Finishes, Settles, finished_changes, finished_entries}
use Rattle.step_relation.specs.Given.{Answer, Faulted, Given, Nothing, Prepared}
use Rattle.step_relation.specs.Nexts.{TakesNext, TakesOver, Works}
use Rattle.step_relation.specs.Rows.{created_row, deleted_row, ready_row, same_row, updated_row}
use Rattle.step_relation.specs.Takes.{HasNoHolder, IsHolder, IsIdleLetter, Relays, Releases, Takes, relayed_letter}
use Rattle.step_relation.specs.Takes.{released_changes, released_entries, taken_job}
use Rattle.step_relation.specs.Writes.{call_entry, complete_mark, failed_mark, lock, lock_writes, mail_entry}
use Rattle.step_relation.specs.Writes.{mark_complete, mark_failed, rows_entry}
use Rattle.heat_plan.specs.declared.calls.Answered.TheVariants as answer
use Rattle.heat_plan.specs.declared.calls.Request.TheVariants as request

-- what an engine's step asks of the state, what it is given, the stack it marks as failed, its changes and entries
pub data Move (s : StateData) (e : ℕ) : Given → Option Stack → List Change → List Entry → Type 0 where
  -- take
  take_dropped : (l : Letter) (cs : List Change) (es : List Entry) → TakesNext s e l → IsIdleLetter s l
      → cs ≡ Drop l.no ∷ []
      → es ≡ mail_entry (Engine e) (Dropped l.no ∷ [])
      → Move s e Nothing None cs es
  take_free : (k : Takes s e) (cs : List Change) (es : List Entry) → HasNoHolder s.jobs k.meant.target
      → cs ≡ lock k.meant.fresh.row e (Drop k.letter.no ∷ PutJob (taken_job s e k) ∷ [])
      → es ≡ rows_entry (Engine e) (lock_writes k.meant.fresh.row e)
      ++ mail_entry (Engine e) (Dropped k.letter.no ∷ Held (taken_job s e k) ∷ [])
      → Move s e Nothing None cs es
  take_stolen : (k : Takes s e) (f : ℕ) (j : Job) (cs : List Change) (es : List Entry)
      → IsHolder s.jobs k.meant.target f j → ¬ Contains s.live f
      → cs ≡ lock k.meant.fresh.row e (Drop k.letter.no ∷ EndJob f ∷ PutJob (taken_job s e k) ∷ [])
      → es ≡ rows_entry (Engine e) (lock_writes k.meant.fresh.row e)
      ++ mail_entry (Engine e) (Dropped k.letter.no ∷ Ended f ∷ Held (taken_job s e k) ∷ [])
      → Move s e Nothing None cs es
  -- begin
  begin_overrun : (j : Job) (cs : List Change) (es : List Entry) → Works s e j Taken → (k : Releases s e j)
      → cs ≡ released_changes s e k.row k.letters
      → es ≡ released_entries e e k.row k.letters
      → Move s e Nothing None cs es
  begin_faulted : (k : Begins s e) (code : List ℕ) (path : List Step) (failed : Option Stack) (cs : List Change)
      (es : List Entry)
      → Falls s k.job [] failed
      → cs ≡ left_changes e k.row ++ mark_failed failed
      → es ≡ left_entries e k.row ++ failed_mark (Engine e) failed (fault_of k.item.name k.row.no code path)
      → Move s e (Faulted code path) failed cs es
  begin_init : (k : Begins s e) (props : Members) (effect : Effect) (cs : List Change) (es : List Entry)
      → k.row.act ≡ Init
      → cs ≡ begun_changes k.job Asking (created_row k.row k.item k.stack.trav props k.required)
      → es ≡ begun_entries e k.job Asking (created_row k.row k.item k.stack.trav props k.required)
      → Move s e (Prepared props effect) None cs es
  begin_same : (k : Begins s e) (props : Members) (effect : Effect) (cs : List Change) (es : List Entry)
      → k.row.act ≢ Init
      → k.row.status ≡ Complete → IsSame k.row k.item props
      → cs ≡ begun_changes k.job Ending (same_row k.row k.item k.stack.trav k.required)
      → es ≡ begun_entries e k.job Ending (same_row k.row k.item k.stack.trav k.required)
      → Move s e (Prepared props effect) None cs es
  begin_in_place : (k : Begins s e) (props : Members) (effect : Effect) (cs : List Change) (es : List Entry)
      → k.row.act ≢ Init
      → k.row.status ≡ Complete → IsSoft k.row k.item props effect
      → cs ≡ begun_changes k.job Asking (updated_row k.row k.item k.stack.trav props k.required)
      → es ≡ begun_entries e k.job Asking (updated_row k.row k.item k.stack.trav props k.required)
      → Move s e (Prepared props effect) None cs es
  begin_resumed : (k : Begins s e) (props : Members) (effect : Effect) (cs : List Change) (es : List Entry)
      → k.row.act ≢ Init
      → k.row.status ≡ InProgress → k.row.trav ≡ k.stack.trav
      → cs ≡ onward_changes k.job Asking
      → es ≡ onward_entries e k.job Asking
      → Move s e (Prepared props effect) None cs es
  begin_failed : (k : Begins s e) (props : Members) (effect : Effect) (cs : List Change) (es : List Entry)
      → k.row.act ≢ Init
      → k.row.status ≡ Failed → k.row.trav ≡ k.stack.trav
      → cs ≡ left_changes e k.row
      → es ≡ left_entries e k.row
      → Move s e (Prepared props effect) None cs es
  begin_replaced : (k : Begins s e) (props : Members) (effect : Effect) (cs : List Change) (es : List Entry)
      → k.row.act ≢ Init
      → MustGo k.row k.item k.stack.trav props effect
      → cs ≡ replaced_changes s e k props
      → es ≡ replaced_entries s e k props
      → Move s e (Prepared props effect) None cs es
  -- begin at a clean-up node
  clean_gone : (k : Cleans s e) (cs : List Change) (es : List Entry) → row_at s.rows k.job.row ≡ None
      → cs ≡ onward_changes k.job Ending
      → es ≡ onward_entries e k.job Ending
      → Move s e Nothing None cs es
  clean_kept : (k : Cleans s e) (r : Row) (cs : List Change) (es : List Entry) → row_at s.rows k.job.row ≡ Some r
      → IsKept s k.stack r
      → cs ≡ onward_changes k.job Ending
      → es ≡ onward_entries e k.job Ending
      → Move s e Nothing None cs es
  clean_init : (k : Cleans s e) (r : Row) (cs : List Change) (es : List Entry) → row_at s.rows k.job.row ≡ Some r
      → ¬ IsKept s k.stack r
      → r.act ≡ Init
      → cs ≡ purged_changes k.job r
      → es ≡ purged_entries e k.job r
      → Move s e Nothing None cs es
  clean_stuck : (k : Cleans s e) (r : Row) (cs : List Change) (es : List Entry) → row_at s.rows k.job.row ≡ Some r
      → ¬ IsKept s k.stack r
      → IsStuck r k.stack.trav
      → cs ≡ left_changes e r
      → es ≡ left_entries e r
      → Move s e Nothing None cs es
  clean_retained : (k : Cleans s e) (r : Row) (cs : List Change) (es : List Entry) → row_at s.rows k.job.row ≡ Some r
      → ¬ IsKept s k.stack r
      → r.act ≢ Init → ¬ IsStuck r k.stack.trav → r.policy ≡ Retain
      → cs ≡ retained_changes k.job r
      → es ≡ retained_entries e k.job r
      → Move s e Nothing None cs es
  clean_deleted : (k : Cleans s e) (r : Row) (cs : List Change) (es : List Entry) → row_at s.rows k.job.row ≡ Some r
      → ¬ IsKept s k.stack r
      → r.act ≢ Init → ¬ IsStuck r k.stack.trav → r.policy ≢ Retain
      → cs ≡ begun_changes k.job Asking (deleted_row r k.stack.trav)
      → es ≡ begun_entries e k.job Asking (deleted_row r k.stack.trav)
      → Move s e Nothing None cs es
  -- ask
  ask_begun : (k : Calls s e Asking) (asked : Request) (cs : List Change) (es : List Entry) → Asks k.row asked
      → cs ≡ onward_changes k.job Polling
      → es ≡ call_entry e k.row asked answer.Begun ∷ onward_entries e k.job Polling
      → Move s e (Answer answer.Begun) None cs es
  ask_failed : (k : Calls s e Asking) (asked : Request) (given : Answered) (reason : Why) (letters : List Letter)
      (failed : Option Stack) (cs : List Change) (es : List Entry) → Asks k.row asked
      → Refuses k.row.act asked given reason → Falls s k.job letters failed
      → cs ≡ failed_changes s e k.row letters failed
      → es ≡ call_entry e k.row asked given ∷ failed_entries e k.row letters failed reason
      → Move s e (Answer given) failed cs es
  -- poll
  poll_waits : (k : Calls s e Polling) (asked : Request) (cs : List Change) (es : List Entry) → Polls k.row asked
      → cs ≡ []
      → es ≡ call_entry e k.row asked answer.NotYet ∷ []
      → Move s e (Answer answer.NotYet) None cs es
  poll_ready : (k : Calls s e Polling) (facts : Facts) (cs : List Change) (es : List Entry) → k.row.act ≢ Delete
      → cs ≡ begun_changes k.job Ending (ready_row k.row facts)
      → es ≡ call_entry e k.row request.Poll (answer.Ready facts) ∷ begun_entries e k.job Ending (ready_row k.row facts)
      → Move s e (Answer (answer.Ready facts)) None cs es
  poll_gone : (k : Calls s e Polling) (cs : List Change) (es : List Entry) → k.row.act ≡ Delete
      → cs ≡ purged_changes k.job k.row
      → es ≡ call_entry e k.row request.Gone answer.Gone ∷ purged_entries e k.job k.row
      → Move s e (Answer answer.Gone) None cs es
  poll_failed : (k : Calls s e Polling) (asked : Request) (given : Answered) (reason : Why) (letters : List Letter)
      (failed : Option Stack) (cs : List Change) (es : List Entry) → Polls k.row asked
      → Refuses k.row.act asked given reason → Falls s k.job letters failed
      → cs ≡ failed_changes s e k.row letters failed
      → es ≡ call_entry e k.row asked given ∷ failed_entries e k.row letters failed reason
      → Move s e (Answer given) failed cs es
  -- finish
  finish_overrun : (j : Job) (cs : List Change) (es : List Entry) → Works s e j Ending → (k : Releases s e j)
      → cs ≡ released_changes s e k.row k.letters
      → es ≡ released_entries e e k.row k.letters
      → Move s e Nothing None cs es
  finish : (k : Finishes s e) (cs : List Change) (es : List Entry) → ¬ Settles s e k
      → cs ≡ finished_changes s e k []
      → es ≡ finished_entries s e k []
      → Move s e Nothing None cs es
  finish_last : (k : Finishes s e) (cs : List Change) (es : List Entry) → Settles s e k
      → cs ≡ finished_changes s e k (mark_complete k.fresh.stack)
      → es ≡ finished_entries s e k (complete_mark (Engine e) k.fresh.stack ∷ [])
      → Move s e Nothing None cs es
  -- take-over
  takeover_overrun : (f : ℕ) (j : Job) (cs : List Change) (es : List Entry) → TakesOver s e f j → (k : Releases s f j)
      → cs ≡ released_changes s f k.row k.letters
      → es ≡ released_entries e f k.row k.letters
      → Move s e Nothing None cs es
  takeover_fresh : (f : ℕ) (k : Relays s e f) (cs : List Change) (es : List Entry)
      → cs ≡ released_changes s f k.fresh.row (relayed_letter s e f k ∷ [])
      → es ≡ released_entries e f k.fresh.row (relayed_letter s e f k ∷ [])
      → Move s e Nothing None cs es
