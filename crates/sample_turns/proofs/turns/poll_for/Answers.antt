-- The answer that was found is one that the row's act may have.
use Rattle.std.proofs.Common.{subst}
use Rattle.std.specs.Prelude.{IfSome}
use Rattle.step_ends.specs.Answers.{AnswersPoll}
use Rattle.sample_turns.proofs.turns.poll_for.Goals as goal

pub poll_with-requires-clause-answer : goal.poll_with-requires-clause-answer
poll_with-requires-clause-answer c =
    subst (λ o. IfSome o (AnswersPoll c.args.row.now.act)) c.in-Some.is c.in_ok-answer.ensures
