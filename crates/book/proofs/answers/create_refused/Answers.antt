use Rattle.std.proofs.lemmas.Result.{IfErr-weaker}
use Rattle.heat_plan.specs.declared.calls.Answered.TheVariants as answers
use Rattle.step_relation.specs.Given.{Answer}
use Rattle.step_relation.specs.Runs.{answer}
use Rattle.book.proofs.QuietTurns.{refusal_of}
use Rattle.book.proofs.answers.create_refused.Goals as goal

pub returns-clause-cause : goal.returns-clause-cause
returns-clause-cause c = IfErr-weaker c.refused_creates.result _ _
    (λ r k. refusal_of c.args.state.now.state c.args.e (Answer answers.Failed) (answer answers.Failed) r k)
    c.refused_creates.ensures.cause
