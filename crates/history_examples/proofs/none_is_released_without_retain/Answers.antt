use Rattle.history_examples.proofs.Spoiled.{without_retain}
use Rattle.history_examples.proofs.none_is_released_without_retain.Goals as goal

pub returns : goal.returns
returns c = without_retain
