use Rattle.std.proofs.lemmas.Bool.{both_ways}
use Rattle.std.proofs.lemmas.Result.{err_from_is_err_and}
use Rattle.plan_codec.specs.PlanLaws.{plan_parts}
use Rattle.plan_codec.proofs.PlanReadings.{any_plan_refused, unfit_refused, plan_taken}
use Rattle.plan_codec.proofs.Readings.{taken_as, refused_as}
use Rattle.plan_codec.proofs.plans.PlanReadable.read.Goals as goal

pub returns-in_err-parts-clause-err : goal.returns-in_err-parts-clause-err
returns-in_err-parts-clause-err c =
    let p = err_from_is_err_and c.from_residual.result c.from_residual.ensures.1 in
    rw (p.1, p.2) (any_plan_refused c.args.bytes.now c.in_err-parts.field-0.0
    (refused_as plan_parts c.args.bytes.now c.in_err-parts.field-0.0 c.in_err-parts.ensures.err))

pub returns-then-not-branch-clause-err : goal.returns-then-not-branch-clause-err
unfolding plan_parts
returns-then-not-branch-clause-err c =
    unfit_refused c.args.bytes.now c.in_ok-parts.rest.now (plan_parts.to c.in_ok-parts.parts)
    (λ plan. both_ways _ c.if-not-branch.true (c.in_ok-is_plan.ensures.1 (rw (c.as_slice.ensures, c.as_slice-2.ensures) plan)))
    (taken_as plan_parts c.args.bytes.now c.in_ok-parts.rest.now c.in_ok-parts.parts c.in_ok-parts.ensures.ok)

pub returns-clause-ok : goal.returns-clause-ok
unfolding plan_parts
returns-clause-ok c =
    let plan = rw (c.as_slice.ensures, c.as_slice-2.ensures) at (c.in_ok-is_plan.ensures.0 c.if-not-branch.false) in
    rw c.new-plan.ensures (plan_taken c.args.bytes.now c.in_ok-parts.rest.now (plan_parts.to c.in_ok-parts.parts) plan
    (taken_as plan_parts c.args.bytes.now c.in_ok-parts.rest.now c.in_ok-parts.parts c.in_ok-parts.ensures.ok))
