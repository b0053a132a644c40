use Rattle.history_laws.proofs.agrees.LaidTold.{commands_tell}
use Rattle.history_laws.proofs.agrees.commands_tell.Goals as goal

pub returns : goal.returns
returns c = commands_tell
