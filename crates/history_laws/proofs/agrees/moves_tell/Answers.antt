use Rattle.history_laws.proofs.agrees.MoveTold.{moves_tell}
use Rattle.history_laws.proofs.agrees.moves_tell.Goals as goal

pub returns : goal.returns
returns c = moves_tell
