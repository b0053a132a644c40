use Rattle.history_laws.proofs.rows.EachRow.{each_row_moves, each_row_commands, each_row_engines}
use Rattle.history_laws.proofs.rows.each_row_fits.Goals as goal

pub returns-clause-moves : goal.returns-clause-moves
returns-clause-moves c = each_row_moves

pub returns-clause-commands : goal.returns-clause-commands
returns-clause-commands c = each_row_commands

pub returns-clause-engines : goal.returns-clause-engines
returns-clause-engines c = each_row_engines
