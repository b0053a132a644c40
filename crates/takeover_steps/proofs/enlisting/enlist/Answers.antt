-- Why no engine is enlisted.
use Rattle.std.proofs.Common.{◌≤◌, ◌^◌, inr, arith}
use Rattle.heat_plan.specs.Numbers.{IsNumber}
use Rattle.step_relation.specs.Refusals.{too_many, worn}
use Rattle.takeover_steps.proofs.EngineLemmas.{none_new}
use Rattle.takeover_steps.proofs.enlisting.enlist.Goals as goal

pub returns-then-live-ge-ENGINE_LIMIT-clause-cause : goal.returns-then-live-ge-ENGINE_LIMIT-clause-cause
returns-then-live-ge-ENGINE_LIMIT-clause-cause c = inr (too_many (rw (← c.live.ensures) c.if-live-ge-ENGINE_LIMIT.true))

pub returns-in-None-clause-cause : goal.returns-in-None-clause-cause
returns-in-None-clause-cause c =
    let off : ¬ IsNumber c.get.result = none_new _ _ _ c.new.ensures c.in-None.is in
    let below : 2 ^ 62 ≤ c.args.s.now.state.next.engine = grind (arith, off, c.get.ensures, c.next.ensures) in
    inr (worn (rw (← c.live.ensures) (omega (arith, c.if-live-ge-ENGINE_LIMIT.false))) below)
