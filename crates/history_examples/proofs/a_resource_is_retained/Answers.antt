use Rattle.history_examples.proofs.Retained.{is_retained}
use Rattle.history_examples.proofs.a_resource_is_retained.Goals as goal

pub returns : goal.returns
returns c = is_retained
