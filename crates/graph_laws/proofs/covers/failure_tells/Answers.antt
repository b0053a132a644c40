use Rattle.graph_laws.proofs.covers.Cases.{failure_tells}
use Rattle.graph_laws.proofs.covers.failure_tells.Goals as goal

pub returns : goal.returns
returns c = failure_tells
