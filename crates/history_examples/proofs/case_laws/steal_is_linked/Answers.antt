use Rattle.history_examples.proofs.Links.{steal_is_linked}
use Rattle.history_examples.proofs.case_laws.steal_is_linked.Goals as goal

pub returns : goal.returns
returns c = steal_is_linked
