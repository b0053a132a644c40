use Rattle.history_examples.proofs.Graphs.{overrun_fits}
use Rattle.history_examples.proofs.case_laws.overrun_fits.Goals as goal

pub returns : goal.returns
returns c = overrun_fits
