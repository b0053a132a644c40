use Rattle.graph_laws.proofs.covers.Cases.{finish_tells}
use Rattle.graph_laws.proofs.covers.finish_tells.Goals as goal

pub returns : goal.returns
returns c = finish_tells
