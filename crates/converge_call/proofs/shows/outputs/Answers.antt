-- The outputs of a stack that is complete, of another one, and of none.
use Rattle.std.proofs.Common.{refl}
use Rattle.step_relation.specs.Steps.{shows}
use Rattle.core_state.specs.State.{stack_at}
use Rattle.converge_call.proofs.Showing.{settled_of, unsettled_of, absent_of}
use Rattle.converge_call.proofs.shows.outputs.Goals as goal

pub note-requires : goal.note-requires
note-requires g c = shows _ _

pub returns-in-Some-Complete-clause-done : goal.returns-in-Some-Complete-clause-done
returns-in-Some-Complete-clause-done g c =
    settled_of _ _ _ _ _ (stack_at c.args.book.now.state.stacks c.args.stack) c.in-Some-Complete.field-0 refl
    c.in-Some-Complete.ensures c.in-Some-Complete.field-0-is c.note.ensures.done

pub returns-in-Some-InProgress-clause-done : goal.returns-in-Some-InProgress-clause-done
returns-in-Some-InProgress-clause-done g c =
    unsettled_of _ _ _ _ _ (stack_at c.args.book.now.state.stacks c.args.stack) c.in-Some-InProgress.field-0 refl
    c.in-Some-InProgress.ensures
    (λ complete. let other = c.in-Some-InProgress.field-0-is in cc) c.refuse.ensures.done

pub returns-in-Some-Failed-clause-done : goal.returns-in-Some-Failed-clause-done
returns-in-Some-Failed-clause-done g c =
    unsettled_of _ _ _ _ _ (stack_at c.args.book.now.state.stacks c.args.stack) c.in-Some-Failed.field-0 refl
    c.in-Some-Failed.ensures
    (λ complete. let other = c.in-Some-Failed.field-0-is in cc) c.refuse-in-Some-Failed.ensures.done

pub returns-in-None-clause-done : goal.returns-in-None-clause-done
returns-in-None-clause-done g c = absent_of _ _ _ _ _
    (stack_at c.args.book.now.state.stacks c.args.stack) refl c.in-None.ensures c.refuse-in-None.ensures.done
