-- What is asked may be begun.
use Rattle.std.proofs.Common.{refl}
use Rattle.takeover_steps.specs.Answers.{begun}
use Rattle.book.proofs.Calling.{asking_of}
use Rattle.book.proofs.ask.outcomes_of.Goals as goal

pub ask_answered-requires-clause-answer : goal.ask_answered-requires-clause-answer
ask_answered-requires-clause-answer c k =
    begun (asking_of c.args.state.now.state c.args.e c.requires.workable.workable.jobs k) refl
