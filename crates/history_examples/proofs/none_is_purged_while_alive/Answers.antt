use Rattle.history_examples.proofs.Spoiled.{while_alive}
use Rattle.history_examples.proofs.none_is_purged_while_alive.Goals as goal

pub returns : goal.returns
returns c = while_alive
