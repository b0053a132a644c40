use Rattle.std.proofs.Common.{refl}
use Rattle.takeover_steps.specs.Answers.{gone, not_yet, poll_failed}
use Rattle.book.proofs.looking.outcomes_of.Goals as goal

pub poll_answered-requires-clause-answer : goal.poll_answered-requires-clause-answer
poll_answered-requires-clause-answer c k = gone (c.requires.goes k) refl

pub poll_answered-requires-2-clause-answer : goal.poll_answered-requires-2-clause-answer
poll_answered-requires-2-clause-answer c k = not_yet refl

pub poll_answered-requires-3-clause-answer : goal.poll_answered-requires-3-clause-answer
poll_answered-requires-3-clause-answer c k = poll_failed refl
