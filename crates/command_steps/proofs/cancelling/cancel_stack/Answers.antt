-- What is looked at, in its order.
use Rattle.std.proofs.Common.{inr}
use Rattle.std.proofs.lemmas.Bool.{both_ways}
use Rattle.step_relation.specs.Refusals.{marked, other_act}
use Rattle.command_steps.proofs.cancelling.cancel_stack.Goals as goal
use Rattle.step_relation.specs.Refusals as refusals

pub returns-then-is_delete-clause-cause : goal.returns-then-is_delete-clause-cause
returns-then-is_delete-clause-cause c =
    inr (refusals.deleting c.args.stack.now c.requires (c.is_delete.ensures.0 c.if-is_delete.true))

pub returns-then-not-is_forward-clause-cause : goal.returns-then-not-is_forward-clause-cause
returns-then-not-is_forward-clause-cause c =
    inr (refusals.not_running c.args.stack.now c.requires
    (λ is. both_ways c.is_delete.result c.if-is_delete.false (c.is_delete.ensures.1 is))
    (other_act (λ forward. both_ways c.is_forward.result c.if-not-is_forward.true (c.is_forward.ensures.1 forward))))

pub returns-then-not-is_running-clause-cause : goal.returns-then-not-is_running-clause-cause
returns-then-not-is_running-clause-cause c =
    inr (refusals.not_running c.args.stack.now c.requires
    (λ is. both_ways c.is_delete.result c.if-is_delete.false (c.is_delete.ensures.1 is))
    (marked (λ running. both_ways c.is_running.result c.if-not-is_running.true (c.is_running.ensures.1 running))))
