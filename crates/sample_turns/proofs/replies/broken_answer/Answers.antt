use Rattle.std.proofs.Common.{refl}
use Rattle.step_ends.specs.Answers.AnswersPoll.{broken}
use Rattle.sample_turns.proofs.replies.broken_answer.Goals as goal

pub returns : goal.returns
returns c = broken _ (c.is_going.ensures.staying c.if-is_going.false) refl
