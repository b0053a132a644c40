use Rattle.history_laws.proofs.agrees.MoveTold.{moves_agree}
use Rattle.history_laws.proofs.agrees.moves_agree.Goals as goal

pub returns : goal.returns
returns c = moves_agree
