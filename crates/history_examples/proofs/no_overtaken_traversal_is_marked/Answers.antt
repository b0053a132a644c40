use Rattle.history_examples.proofs.Overtaken.{though_overtaken}
use Rattle.history_examples.proofs.no_overtaken_traversal_is_marked.Goals as goal

pub returns : goal.returns
returns c = though_overtaken
