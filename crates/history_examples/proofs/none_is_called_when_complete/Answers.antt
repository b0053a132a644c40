use Rattle.history_examples.proofs.Spoiled.{when_complete}
use Rattle.history_examples.proofs.none_is_called_when_complete.Goals as goal

pub returns : goal.returns
returns c = when_complete
