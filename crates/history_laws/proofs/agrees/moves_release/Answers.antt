use Rattle.history_laws.proofs.agrees.MoveTold.{moves_release}
use Rattle.history_laws.proofs.agrees.moves_release.Goals as goal

pub returns : goal.returns
returns c = moves_release
