use Rattle.history_laws.proofs.frames.Commands.{commands_on_one}
use Rattle.history_laws.proofs.frames.commands_are_on_one.Goals as goal

pub returns : goal.returns
returns c = commands_on_one
