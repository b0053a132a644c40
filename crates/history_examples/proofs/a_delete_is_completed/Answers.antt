use Rattle.history_examples.proofs.Deleted.{is_deleted}
use Rattle.history_examples.proofs.a_delete_is_completed.Goals as goal

pub returns : goal.returns
returns c = is_deleted
