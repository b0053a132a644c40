use Rattle.std.proofs.lemmas.Result.{IfErr-weaker}
use Rattle.step_relation.specs.Given.{Answer}
use Rattle.step_relation.specs.Runs.{answer}
use Rattle.book.proofs.QuietTurns.{refusal_of}
use Rattle.book.proofs.answers.poll_answered.Goals as goal

pub returns-clause-cause : goal.returns-clause-cause
returns-clause-cause c = IfErr-weaker c.polled.result _ _
    (λ r k. refusal_of c.args.state.now.state c.args.e (Answer c.args.answer.now)
    (answer c.args.answer.now) r k) c.polled.ensures.cause
