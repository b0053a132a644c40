use Rattle.history_examples.proofs.Links.{delete_is_linked}
use Rattle.history_examples.proofs.case_laws.delete_is_linked.Goals as goal

pub returns : goal.returns
returns c = delete_is_linked
