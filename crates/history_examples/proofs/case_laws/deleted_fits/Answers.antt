use Rattle.history_examples.proofs.Jobs.{deleted_fits}
use Rattle.history_examples.proofs.case_laws.deleted_fits.Goals as goal

pub returns : goal.returns
returns c = deleted_fits
