use Rattle.history_examples.proofs.Links.{release_is_linked}
use Rattle.history_examples.proofs.case_laws.release_is_linked.Goals as goal

pub returns : goal.returns
returns c = release_is_linked
