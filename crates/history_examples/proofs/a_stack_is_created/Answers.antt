use Rattle.history_examples.proofs.Created.{is_created}
use Rattle.history_examples.proofs.a_stack_is_created.Goals as goal

pub returns : goal.returns
returns c = is_created
