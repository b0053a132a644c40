-- An answer that the row's act may have is one that the engine's call may have.
use Rattle.std.proofs.Common.{ℕ}
use Rattle.heat_plan.specs.declared.phase.Act.{Act}
use Rattle.mail_table.specs.declared.mail.Stage.TheVariants.{Polling}
use Rattle.step_ends.specs.Answers.{AnswersPoll}
use Rattle.sample_turns.proofs.Callings.{said_of_each}
use Rattle.sample_turns.proofs.turns.poll_with.Goals as goal

pub polled-requires-clause-answer : goal.polled-requires-clause-answer
polled-requires-clause-answer c = said_of_each c.args.s.now.state c.args.e Polling
    (λ (act : Act). AnswersPoll act c.args.answer.now) _ _ c.requires.call c.requires.answer
