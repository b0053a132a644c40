use Rattle.graph_laws.proofs.fits.Own.{fit_by_engines}
use Rattle.graph_laws.proofs.fits.rows_fit_by_engines.Goals as goal

pub returns : goal.returns
returns c = fit_by_engines
