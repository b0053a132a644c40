use Rattle.history_examples.proofs.Links.{replacement_is_linked}
use Rattle.history_examples.proofs.case_laws.replacement_is_linked.Goals as goal

pub returns : goal.returns
returns c = replacement_is_linked
