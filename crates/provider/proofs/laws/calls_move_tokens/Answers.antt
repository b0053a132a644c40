use Rattle.provider.proofs.States.{calls-move}
use Rattle.provider.proofs.laws.calls_move_tokens.Goals as goal

pub returns-clause-moves : goal.returns-clause-moves
returns-clause-moves c = calls-move
