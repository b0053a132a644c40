use Rattle.history_examples.proofs.Spoiled.{before_ready}
use Rattle.history_examples.proofs.none_is_marked_before_ready.Goals as goal

pub returns : goal.returns
returns c = before_ready
