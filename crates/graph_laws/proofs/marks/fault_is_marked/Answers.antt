use Rattle.graph_laws.proofs.marks.Cases.{fault_is_marked}
use Rattle.graph_laws.proofs.marks.fault_is_marked.Goals as goal

pub returns : goal.returns
returns c = fault_is_marked
