-- The rollback's items are those of the plan to go back to.
use Rattle.std.proofs.Common.{◌≡◌, ◌∙◌, ap, inr}
use Rattle.std.proofs.lemmas.Bool.{both_ways}
use Rattle.std.proofs.lemmas.Result.{IfErr-weaker, IfOk-weaker}
use Rattle.step_relation.specs.Commands.{Sets}
use Rattle.step_relation.specs.Freshness.{plan_of}
use Rattle.step_relation.specs.Orders.{HasRoomFor, plan_back}
use Rattle.command_steps.proofs.Steps.{cancels, runs, worn_cancel}
use Rattle.command_steps.proofs.cancelling.cancel_running.Goals as goal
use Rattle.step_relation.specs.Refusals as refusals

pub returns-then-not-has_room_for-clause-cause : goal.returns-then-not-has_room_for-clause-cause
returns-then-not-has_room_for-clause-cause c =
    let s = c.args.s.now.state in
    let st = c.args.stack.now in
    let items : c.items.result.now ≡ (plan_back s st).items =
    c.items.ensures.value ∙ ap (λ (it : Sets). (plan_of it.plan).items) c.in_ok-order.ensures in
    inr (refusals.too_many_rows st c.requires.found c.requires.kept (runs st c.requires.forward c.requires.running)
    (λ room. both_ways c.has_room_for.result c.if-not-has_room_for.true (c.has_room_for.ensures.1 (rw items room))))

pub returns-clause-made : goal.returns-clause-made
returns-clause-made c =
    let s = c.args.s.now.state in
    let st = c.args.stack.now in
    let items : c.items.result.now ≡ (plan_back s st).items =
    c.items.ensures.value ∙ ap (λ (it : Sets). (plan_of it.plan).items) c.in_ok-order.ensures in
    let room : HasRoomFor s (plan_back s st).items =
    rw items at (c.has_room_for.ensures.0 c.if-not-has_room_for.false) in
    IfOk-weaker c.ordered.result _ _
    (λ m laying. cancels s m.changes m.entries c.args.name.now st c.requires.found c.requires.forward
    c.requires.running room (rw c.in_ok-order.ensures at laying))
    c.ordered.ensures.made

pub returns-clause-cause : goal.returns-clause-cause
returns-clause-cause c =
    let s = c.args.s.now.state in
    let st = c.args.stack.now in
    let items : c.items.result.now ≡ (plan_back s st).items =
    c.items.ensures.value ∙ ap (λ (it : Sets). (plan_of it.plan).items) c.in_ok-order.ensures in
    let room : HasRoomFor s (plan_back s st).items =
    rw items at (c.has_room_for.ensures.0 c.if-not-has_room_for.false) in
    IfErr-weaker c.ordered.result _ _
    (λ r cause. worn_cancel s c.args.name.now st c.requires.found r c.requires.kept c.requires.forward
    c.requires.running room (rw c.in_ok-order.ensures at cause))
    c.ordered.ensures.cause
