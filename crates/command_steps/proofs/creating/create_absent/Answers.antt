-- The limits in their order.
use Rattle.std.proofs.Common.{◌<◌, inr, length}
use Rattle.std.proofs.lemmas.Bool.{both_ways}
use Rattle.std.proofs.lemmas.Result.{IfErr-weaker}
use Rattle.step_relation.specs.Orders.{HasRoomFor, stack_limit}
use Rattle.command_steps.proofs.Steps.{worn_create}
use Rattle.command_steps.proofs.creating.create_absent.Goals as goal
use Rattle.step_relation.specs.Refusals as refusals

pub returns-then-stacks-ge-STACK_LIMIT-clause-cause : goal.returns-then-stacks-ge-STACK_LIMIT-clause-cause
returns-then-stacks-ge-STACK_LIMIT-clause-cause c =
    inr (refusals.too_many_stacks c.requires (rw c.stacks.ensures at c.if-stacks-ge-STACK_LIMIT.true))

pub returns-then-not-has_room_for-clause-cause : goal.returns-then-not-has_room_for-clause-cause
returns-then-not-has_room_for-clause-cause c =
    inr (refusals.too_many_rows c.requires (rw c.stacks.ensures at c.if-stacks-ge-STACK_LIMIT.false)
    (λ room. both_ways c.has_room_for.result c.if-not-has_room_for.true
    (c.has_room_for.ensures.1 (rw c.items.ensures.value room))))

pub returns-clause-cause : goal.returns-clause-cause
returns-clause-cause c =
    let s = c.args.s.now.state in
    let few : length s.stacks < stack_limit = rw c.stacks.ensures at c.if-stacks-ge-STACK_LIMIT.false in
    let room : HasRoomFor s c.args.plan.items =
    rw c.items.ensures.value at (c.has_room_for.ensures.0 c.if-not-has_room_for.false) in
    IfErr-weaker c.create_within.result _ _
    (λ r cause. worn_create s c.args.name.now c.args.plan c.args.rollback c.requires few room r cause)
    c.create_within.ensures.cause
