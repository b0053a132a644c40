use Rattle.std.proofs.Common.{refl}
use Rattle.step_ends.specs.Answers.AnswersPoll.{ready}
use Rattle.sample_turns.proofs.replies.done_answer.Goals as goal

pub returns : goal.returns
returns c = ready _ (c.is_going.ensures.staying c.if-is_going.false) refl
