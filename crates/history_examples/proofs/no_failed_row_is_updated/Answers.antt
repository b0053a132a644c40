use Rattle.history_examples.proofs.FailedFirst.{not_absent}
use Rattle.history_examples.proofs.no_failed_row_is_updated.Goals as goal

pub returns : goal.returns
returns c = not_absent
