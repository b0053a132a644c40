use Rattle.history_examples.proofs.Graphs.{replacement_fits}
use Rattle.history_examples.proofs.case_laws.replacement_fits.Goals as goal

pub returns : goal.returns
returns c = replacement_fits
