use Rattle.history_examples.proofs.Undone.{is_undone}
use Rattle.history_examples.proofs.a_rollback_is_completed.Goals as goal

pub returns : goal.returns
returns c = is_undone
