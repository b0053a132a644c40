use Rattle.history_examples.proofs.Spoiled.{twice}
use Rattle.history_examples.proofs.none_is_marked_twice.Goals as goal

pub returns : goal.returns
returns c = twice
