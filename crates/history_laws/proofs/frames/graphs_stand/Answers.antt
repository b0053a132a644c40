use Rattle.history_laws.proofs.frames.Stands.{stand_by_commands, stand_by_engines, stand_by_moves}
use Rattle.history_laws.proofs.frames.graphs_stand.Goals as goal

pub returns-clause-moves : goal.returns-clause-moves
returns-clause-moves c = stand_by_moves

pub returns-clause-commands : goal.returns-clause-commands
returns-clause-commands c = stand_by_commands

pub returns-clause-engines : goal.returns-clause-engines
returns-clause-engines c = stand_by_engines
