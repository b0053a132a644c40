use Rattle.history_examples.proofs.Cancelled.{not_by_an_engine}
use Rattle.history_examples.proofs.no_engine_cancels.Goals as goal

pub returns : goal.returns
returns c = not_by_an_engine
