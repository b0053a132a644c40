use Rattle.graph_laws.proofs.marks.Cases.{last_is_marked}
use Rattle.graph_laws.proofs.marks.last_is_marked.Goals as goal

pub returns : goal.returns
returns c = last_is_marked
