use Rattle.history_laws.proofs.agrees.Laid.{commands_release}
use Rattle.history_laws.proofs.agrees.commands_release.Goals as goal

pub returns : goal.returns
returns c = commands_release
