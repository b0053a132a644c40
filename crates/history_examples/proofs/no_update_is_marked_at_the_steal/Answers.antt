use Rattle.history_examples.proofs.Stolen.{not_at_the_steal}
use Rattle.history_examples.proofs.no_update_is_marked_at_the_steal.Goals as goal

pub returns : goal.returns
returns c = not_at_the_steal
