use Rattle.history_laws.proofs.frames.OnOne.{moves_on_one}
use Rattle.history_laws.proofs.frames.moves_are_on_one.Goals as goal

pub returns : goal.returns
returns c = moves_on_one
