use Rattle.history_examples.proofs.Completed.{before_clean_up}
use Rattle.history_examples.proofs.none_is_complete_before_clean_up.Goals as goal

pub returns : goal.returns
returns c = before_clean_up
