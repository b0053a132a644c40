-- The create fails, and the stack is updated: another row takes the failed one's place.
use Rattle.std.specs.Prelude.{List, None, Some, [], codes, false, ◌++◌, ◌∷◌, ◌≡◌}
use Rattle.heat_plan.specs.declared.item.Policy.{Policy}
use Rattle.heat_plan.specs.declared.item.Policy.TheVariants.{Delete}
use Rattle.heat_plan.specs.declared.phase.Act.TheVariants.{Create}
use Rattle.heat_plan.specs.declared.phase.Status.TheVariants.{Failed}
use Rattle.row_table.specs.declared.row.Row.{Row}
use Rattle.core_state.specs.State.{StateData}
use Rattle.core_state.specs.declared.entry.Actor.TheVariants.{Engine}
use Rattle.core_state.specs.declared.entry.Cause.{Cause}
use Rattle.core_state.specs.declared.entry.Entry.{Entry}
use Rattle.core_state.specs.declared.entry.MailWrite.TheVariants.{Ended}
use Rattle.core_state.specs.declared.entry.RowWrite.TheVariants.{Set}
use Rattle.step_relation.specs.Runs.{Run}
use Rattle.step_relation.specs.Could.{could_of}
use Rattle.step_relation.specs.Marked.{FailedFor, Unmarked, mark_of}
use Rattle.step_relation.specs.Stored.{stored}
use Rattle.step_relation.specs.Headline.{Headline}
use Rattle.history_examples.specs.Created.{begun, stack, until_begun}
use Rattle.history_examples.specs.FirstRow.{row_begun_under}
use Rattle.history_examples.specs.Sentences.{Asked}
use Rattle.history_examples.specs.Setting.{item_name, living, mail_writes, opening, registries, row_writes, says, sized}
use Rattle.history_examples.specs.Setting.{stack_name, token}
use Rattle.history_examples.specs.Spoiled.{Spoiled}
use Rattle.history_examples.specs.Updates.{left, replace_tells, replaced, retake_tells, row_two, update_tells}
use Rattle.heat_plan.specs.declared.calls.Answered.TheVariants as answer
use Rattle.heat_plan.specs.declared.calls.Request.TheVariants as request
use Rattle.core_state.specs.declared.entry.What.TheVariants as what
use Rattle.core_state.specs.declared.entry.Why.TheVariants as why

-- the row whose create failed: what it asked for may be alive, or not
abbrev pub row_failed_under : Policy → Row
row_failed_under policy = record (row_begun_under policy) { status = Failed; engine = None; key = 2 }

-- with the policy of all examples but one
abbrev pub row_failed : Row
row_failed = row_failed_under Delete

-- why the create failed: the cloud failed it at this row
abbrev pub cause : Cause
cause = record { name = item_name; row = 1; why = why.Failed Create }

-- the row, the job and the stack behind that failure
abbrev pub failed : StateData
failed = record (begun false) { stacks = stack Failed ∷ []; rows = row_failed ∷ []; jobs = [] }

-- what the ask that failed tells: the call, the row, the job's end, and the mark with its cause
abbrev pub fail_tells_under : Policy → List Entry
fail_tells_under policy =
    says (Engine 1) (what.Call (token 1) (request.Create (codes "Box") (sized 1)) answer.Failed)
    ∷ row_writes 1 (Set (row_failed_under policy) ∷ [])
    ∷ mail_writes 1 (Ended 1 ∷ [])
    ∷ says (Engine 1) (what.Mark stack_name 1 Create (Some cause))
    ∷ []

-- the same, with the policy of all examples but one
abbrev pub fail_tells : List Entry
fail_tells = fail_tells_under Delete

-- the histories so far: up to the failure, which isn't rolled back
abbrev pub until_failed : List Entry
until_failed = until_begun false ++ fail_tells

-- up to the update's command
abbrev pub until_updated : List Entry
until_updated = until_failed ++ update_tells 1

-- up to the take of its letter
abbrev pub until_retaken : List Entry
until_retaken = until_updated ++ retake_tells row_failed

-- up to the replacement of the failed row
abbrev pub history : List Entry
history = until_retaken ++ replace_tells 1 row_failed

-- the new row is to be created, and the failed one stands until it is cleaned up
pub record IsUpdatedAfterFailure : Type 0 where
  pub run : Run registries opening.state (replaced 1 None row_failed) history
  pub headline : Headline registries opening history (replaced 1 None row_failed)
  pub failure : mark_of opening until_failed stack_name ≡ Some (FailedFor (Some cause))
  pub mark : mark_of opening history stack_name ≡ Some Unmarked
  pub alive : could_of opening history (token 1) ≡ None ∷ Some (living 1 None) ∷ []
  pub rows : stored opening history ≡ left row_failed ∷ row_two 1 ∷ []

-- spoiled: the failed row is updated in place, though there may be nothing to update
abbrev pub asked_of_what_may_be_absent : Spoiled
asked_of_what_may_be_absent = record {
  before = until_retaken;
  entry = says (Engine 1) (what.Call (token 1) (request.Update (sized 1)) answer.Begun);
  broken = Asked ∷ [];
}
