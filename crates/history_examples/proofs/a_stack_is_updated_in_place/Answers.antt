use Rattle.history_examples.proofs.InPlace.{is_updated_in_place}
use Rattle.history_examples.proofs.a_stack_is_updated_in_place.Goals as goal

pub returns : goal.returns
returns c = is_updated_in_place
