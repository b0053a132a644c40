use Rattle.history_examples.proofs.Sentences.{runs_have_headline}
use Rattle.history_examples.proofs.runs_have_headline.Goals as goal

pub returns : goal.returns
returns c = runs_have_headline
