use Rattle.std.proofs.Common.{refl}
use Rattle.step_ends.proofs.BrokenTurns.{broken_turn}
use Rattle.step_ends.proofs.breaking.broken.Goals as goal

pub returns : goal.returns
returns c = λ s e k kept turn.
    broken_turn c.args.code.now s e k kept c.args.failed turn _ refl c.in_ok-entries.ensures
