use Rattle.history_examples.proofs.Graphs.{given_up_fits}
use Rattle.history_examples.proofs.case_laws.given_up_fits.Goals as goal

pub returns : goal.returns
returns c = given_up_fits
