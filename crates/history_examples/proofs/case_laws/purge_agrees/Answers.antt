use Rattle.history_examples.proofs.Tells.{purge_agrees}
use Rattle.history_examples.proofs.case_laws.purge_agrees.Goals as goal

pub returns : goal.returns
returns c = purge_agrees
