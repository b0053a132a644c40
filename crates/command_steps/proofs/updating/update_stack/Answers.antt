-- What is looked at, in its order.
use Rattle.std.proofs.Common.{◌≢◌, inr}
use Rattle.std.proofs.lemmas.Bool.{both_ways}
use Rattle.std.proofs.lemmas.Result.{IfErr-weaker, IfOk-weaker}
use Rattle.heat_plan.specs.declared.phase.Act.TheVariants.{Delete}
use Rattle.step_relation.specs.Orders.{HasRoomFor}
use Rattle.command_steps.proofs.Steps.{updates, worn_update}
use Rattle.command_steps.proofs.updating.update_stack.Goals as goal
use Rattle.step_relation.specs.Refusals as refusals

pub returns-then-is_delete-clause-cause : goal.returns-then-is_delete-clause-cause
returns-then-is_delete-clause-cause c =
    inr (refusals.deleting c.args.stack.now c.requires (c.is_delete.ensures.0 c.if-is_delete.true))

pub returns-then-not-has_room_for-clause-cause : goal.returns-then-not-has_room_for-clause-cause
returns-then-not-has_room_for-clause-cause c =
    inr (refusals.too_many_rows c.args.stack.now c.requires
    (λ is. both_ways c.is_delete.result c.if-is_delete.false (c.is_delete.ensures.1 is))
    (λ room. both_ways c.has_room_for.result c.if-not-has_room_for.true
    (c.has_room_for.ensures.1 (rw c.items.ensures.value room))))

pub returns-clause-made : goal.returns-clause-made
returns-clause-made c =
    let s = c.args.s.now.state in
    let kept : c.args.stack.now.act ≢ Delete =
    λ is. both_ways c.is_delete.result c.if-is_delete.false (c.is_delete.ensures.1 is) in
    let room : HasRoomFor s c.args.plan.items =
    rw c.items.ensures.value at (c.has_room_for.ensures.0 c.if-not-has_room_for.false) in
    IfOk-weaker c.update_within.result _ _
    (λ m laying. updates s m.changes m.entries c.args.name.now c.args.stack.now c.requires c.args.plan c.args.rollback
    c.items.ensures.plan kept room laying)
    c.update_within.ensures.made

pub returns-clause-cause : goal.returns-clause-cause
returns-clause-cause c =
    let s = c.args.s.now.state in
    let kept : c.args.stack.now.act ≢ Delete =
    λ is. both_ways c.is_delete.result c.if-is_delete.false (c.is_delete.ensures.1 is) in
    let room : HasRoomFor s c.args.plan.items =
    rw c.items.ensures.value at (c.has_room_for.ensures.0 c.if-not-has_room_for.false) in
    IfErr-weaker c.update_within.result _ _
    (λ r cause. worn_update s c.args.name.now c.args.stack.now c.requires r c.args.plan c.args.rollback kept room
    cause) c.update_within.ensures.cause
