use Rattle.history_examples.proofs.InPlace.{not_without_asking}
use Rattle.history_examples.proofs.no_row_is_updated_without_asking.Goals as goal

pub returns : goal.returns
returns c = not_without_asking
