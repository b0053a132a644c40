-- Its bytes are the spelling of these changes alone.
use Rattle.std.proofs.Common.{◌≡◌, ◌∙◌, List, subst, sym}
use Rattle.core_state.specs.Applies.{AllApply}
use Rattle.core_state.specs.declared.change.Change.{Change}
use Rattle.row_codec.specs.ChangeLaws.{one_reading}
use Rattle.row_codec.specs.Changes.{IsSpelling}
use Rattle.state_journal.proofs.reading.follow.Goals as goal

pub returns-in_ok-batch_of-in-Some-clause-no : goal.returns-in_ok-batch_of-in-Some-clause-no
returns-in_ok-batch_of-in-Some-clause-no c is t it =
    let read : IsSpelling c.args.payload.now c.in-Some.changes.items =
    rw (← c.as_slice.ensures) (rw c.in-Some.is at c.in_ok-changes.ensures.some) in
    let same : it.changes ≡ c.in_ok-batch_of-in-Some.field-0 =
    one_reading c.args.payload.now it.changes c.in-Some.changes.items it.spelling read
    ∙ sym c.in_ok-batch_of-in-Some.ensures in
    c.apply_all.ensures.no is
    (subst (λ (l : List Change). AllApply l c.args.state.now.state) same it.applies)
