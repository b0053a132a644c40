use Rattle.history_examples.proofs.Graphs.{finish_fits}
use Rattle.history_examples.proofs.case_laws.finish_fits.Goals as goal

pub returns : goal.returns
returns c = finish_fits
