use Rattle.history_examples.proofs.DeletedHalfway.{alive_then}
use Rattle.history_examples.proofs.no_delete_is_marked_at_once.Goals as goal

pub returns : goal.returns
returns c = alive_then
