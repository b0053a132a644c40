use Rattle.history_examples.proofs.Completed.{is_completed}
use Rattle.history_examples.proofs.an_overtaking_update_is_completed.Goals as goal

pub returns : goal.returns
returns c = is_completed
