-- The turns of a quota and of a failure.
use Rattle.std.proofs.Common.{refl}
use Rattle.std.proofs.lemmas.Result.{IfErr-weaker, IfOk-weaker}
use Rattle.heat_plan.specs.declared.calls.Answered.TheVariants as answers
use Rattle.step_ends.specs.Answers.{AnswersAsk, creates, failed, quota}
use Rattle.step_ends.proofs.Passing.{IfOk-both, IfOk-three}
use Rattle.step_ends.proofs.Twice.{told_lasts, told_turn_of, told_worn}
use Rattle.step_ends.proofs.ask.refused_twice.Goals as goal

pub returns-clause-quota : goal.returns-clause-quota
returns-clause-quota c = IfOk-weaker c.fallen_twice.result _ _
    (λ both k. told_turn_of c.args.s.now.state c.args.e c.args.job.now c.args.row.now answers.Quota c.in_ok-quota.quota c.requires.call
    c.in_ok-quota.ensures both.0 (quota c.requires.creates refl) k.0
    (told_lasts c.args.s.now.state c.args.e c.args.job.now c.args.row.now answers.Quota c.in_ok-quota.quota c.requires.call
    c.in_ok-quota.ensures both.0.changes both.0.entries k.0 k.1))
    (IfOk-both c.fallen_twice.result _ _ c.fallen_twice.ensures.first c.fallen_twice.ensures.lasts)

pub returns-clause-failed : goal.returns-clause-failed
returns-clause-failed c = IfOk-weaker c.fallen_twice.result _ _
    (λ both k. told_turn_of c.args.s.now.state c.args.e c.args.job.now c.args.row.now answers.Failed c.in_ok-failed.failed c.requires.call
    c.in_ok-failed.ensures both.1 (failed (creates c.requires.creates) refl) k.1
    (told_lasts c.args.s.now.state c.args.e c.args.job.now c.args.row.now answers.Quota c.in_ok-quota.quota c.requires.call
    c.in_ok-quota.ensures both.0.changes both.0.entries k.0 k.2))
    (IfOk-three c.fallen_twice.result _ _ _ c.fallen_twice.ensures.first c.fallen_twice.ensures.second c.fallen_twice.ensures.lasts)

pub returns-clause-cause : goal.returns-clause-cause
returns-clause-cause c = IfErr-weaker c.fallen_twice.result _ _
    (λ r k. told_worn c.args.s.now.state c.args.e c.args.job.now c.args.row.now answers.Quota c.in_ok-quota.quota c.requires.call
    c.in_ok-quota.ensures r (quota c.requires.creates refl) k) c.fallen_twice.ensures.cause
