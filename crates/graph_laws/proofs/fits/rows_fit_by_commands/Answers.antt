use Rattle.graph_laws.proofs.fits.Laid.{fit_by_commands}
use Rattle.graph_laws.proofs.fits.rows_fit_by_commands.Goals as goal

pub returns : goal.returns
returns c = fit_by_commands
