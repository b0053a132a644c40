use Rattle.history_examples.proofs.Jobs.{resumed_fits}
use Rattle.history_examples.proofs.case_laws.resumed_fits.Goals as goal

pub returns : goal.returns
returns c = resumed_fits
