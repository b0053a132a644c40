use Rattle.history_examples.proofs.Links.{leaving_is_linked}
use Rattle.history_examples.proofs.case_laws.leaving_is_linked.Goals as goal

pub returns : goal.returns
returns c = leaving_is_linked
