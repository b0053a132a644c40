use Rattle.graph_laws.proofs.fits.Kept.{fit_by_moves}
use Rattle.graph_laws.proofs.fits.rows_fit_by_moves.Goals as goal

pub returns : goal.returns
returns c = fit_by_moves
