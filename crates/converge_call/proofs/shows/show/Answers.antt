-- A listing of a stack that is there, and of one that isn't.
use Rattle.std.proofs.Common.{◌∙◌, sym, ap}
use Rattle.std.specs.Prelude.{not}
use Rattle.step_relation.specs.Steps.{shows}
use Rattle.core_state.specs.State.{StateData, stack_at}
use Rattle.converge_call.proofs.Showing.{shown_of, unshown_of, some_mapped, none_mapped}
use Rattle.converge_call.proofs.shows.show.Goals as goal

pub note-requires : goal.note-requires
note-requires g c = shows _ _

pub returns-clause-done : goal.returns-clause-done
returns-clause-done g c =
    shown_of _ _ _ _ _ _ _ (ap (λ (s : StateData). stack_at s.stacks c.args.stack) (sym c.state.ensures)
    ∙ sym c.stack-2.ensures)
    (some_mapped _ c.stack-2.result (c.is_none.ensures ∙ ap not c.if-is_none.false)) c.note.ensures.done

pub returns-then-is_none-clause-done : goal.returns-then-is_none-clause-done
returns-then-is_none-clause-done g c =
    unshown_of _ _ _ _ _ _ (ap (λ (s : StateData). stack_at s.stacks c.args.stack) (sym c.state.ensures)
    ∙ sym c.stack-2.ensures
    ∙ none_mapped _ c.stack-2.result (c.is_none.ensures ∙ ap not c.if-is_none.true)) c.refuse.ensures.done
