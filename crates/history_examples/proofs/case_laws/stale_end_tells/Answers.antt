use Rattle.history_examples.proofs.Covers.{stale_end_tells}
use Rattle.history_examples.proofs.case_laws.stale_end_tells.Goals as goal

pub returns : goal.returns
returns c = stale_end_tells
