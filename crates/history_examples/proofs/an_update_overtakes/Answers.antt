use Rattle.history_examples.proofs.Overtaken.{is_overtaken}
use Rattle.history_examples.proofs.an_update_overtakes.Goals as goal

pub returns : goal.returns
returns c = is_overtaken
