use Rattle.history_examples.proofs.TakenOver.{purged}
use Rattle.history_examples.proofs.no_row_is_purged_at_a_take_over.Goals as goal

pub returns : goal.returns
returns c = purged
