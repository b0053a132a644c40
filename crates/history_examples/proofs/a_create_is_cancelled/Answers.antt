use Rattle.history_examples.proofs.Cancelled.{is_cancelled}
use Rattle.history_examples.proofs.a_create_is_cancelled.Goals as goal

pub returns : goal.returns
returns c = is_cancelled
