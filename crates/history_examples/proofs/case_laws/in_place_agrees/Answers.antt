use Rattle.history_examples.proofs.Tells.{in_place_agrees}
use Rattle.history_examples.proofs.case_laws.in_place_agrees.Goals as goal

pub returns : goal.returns
returns c = in_place_agrees
