use Rattle.history_laws.proofs.agrees.Laid.{commands_agree}
use Rattle.history_laws.proofs.agrees.commands_agree.Goals as goal

pub returns : goal.returns
returns c = commands_agree
