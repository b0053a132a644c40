use Rattle.history_examples.proofs.Stolen.{is_stolen}
use Rattle.history_examples.proofs.a_row_is_stolen.Goals as goal

pub returns : goal.returns
returns c = is_stolen
