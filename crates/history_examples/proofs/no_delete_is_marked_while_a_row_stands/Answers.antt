use Rattle.history_examples.proofs.Deleted.{a_row_stands}
use Rattle.history_examples.proofs.no_delete_is_marked_while_a_row_stands.Goals as goal

pub returns : goal.returns
returns c = a_row_stands
