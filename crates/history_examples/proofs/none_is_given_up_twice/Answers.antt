use Rattle.history_examples.proofs.Retained.{not_twice}
use Rattle.history_examples.proofs.none_is_given_up_twice.Goals as goal

pub returns : goal.returns
returns c = not_twice
