use Rattle.history_examples.proofs.Covers.{stale_take_over_tells}
use Rattle.history_examples.proofs.case_laws.stale_take_over_tells.Goals as goal

pub returns : goal.returns
returns c = stale_take_over_tells
