use Rattle.history_examples.proofs.Undone.{not_in_doubt}
use Rattle.history_examples.proofs.no_rollback_is_marked_in_doubt.Goals as goal

pub returns : goal.returns
returns c = not_in_doubt
