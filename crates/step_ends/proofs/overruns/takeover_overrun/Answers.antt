use Rattle.std.proofs.lemmas.Result.{IfErr-weaker, IfOk-weaker}
use Rattle.step_relation.specs.Moves.{takeover_overrun}
use Rattle.step_ends.proofs.Refusing.{release_refusal, release_turn}
use Rattle.step_ends.proofs.overruns.takeover_overrun.Goals as goal

pub returns-clause-made : goal.returns-clause-made
returns-clause-made c = IfOk-weaker c.release.result _ _
    (λ m k. release_turn _ c.args.e c.args.job.now.engine _ m
    (λ k cs es. takeover_overrun c.args.job.now.engine c.args.job.now cs es c.requires.takes k) k)
    c.release.ensures.made

pub returns-clause-cause : goal.returns-clause-cause
returns-clause-cause c = IfErr-weaker c.release.result _ _
    (λ r k. release_refusal _ c.args.e c.args.job.now.engine _ r
    (λ k cs es. takeover_overrun c.args.job.now.engine c.args.job.now cs es c.requires.takes k) k)
    c.release.ensures.cause
