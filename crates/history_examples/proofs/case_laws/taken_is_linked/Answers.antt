use Rattle.history_examples.proofs.Links.{taken_is_linked}
use Rattle.history_examples.proofs.case_laws.taken_is_linked.Goals as goal

pub returns : goal.returns
returns c = taken_is_linked
