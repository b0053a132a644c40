use Rattle.history_examples.proofs.Sentences.{sentences_are_all}
use Rattle.history_examples.proofs.sentences_are_all.Goals as goal

pub returns : goal.returns
returns c = sentences_are_all
