use Rattle.graph_laws.proofs.marks.Cases.{other_is_unmarked}
use Rattle.graph_laws.proofs.marks.other_is_unmarked.Goals as goal

pub returns : goal.returns
returns c = other_is_unmarked
