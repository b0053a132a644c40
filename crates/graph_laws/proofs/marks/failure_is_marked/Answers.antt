use Rattle.graph_laws.proofs.marks.Cases.{failure_is_marked}
use Rattle.graph_laws.proofs.marks.failure_is_marked.Goals as goal

pub returns : goal.returns
returns c = failure_is_marked
