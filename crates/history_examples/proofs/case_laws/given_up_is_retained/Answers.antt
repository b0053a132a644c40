use Rattle.history_examples.proofs.Tells.{given_up_is_retained}
use Rattle.history_examples.proofs.case_laws.given_up_is_retained.Goals as goal

pub returns : goal.returns
returns c = given_up_is_retained
