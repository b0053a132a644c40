use Rattle.history_examples.proofs.Rows.{begun_fits}
use Rattle.history_examples.proofs.case_laws.begun_fits.Goals as goal

pub returns : goal.returns
returns c = begun_fits
