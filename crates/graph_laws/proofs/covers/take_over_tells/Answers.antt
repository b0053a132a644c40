use Rattle.graph_laws.proofs.covers.Cases.{take_over_tells}
use Rattle.graph_laws.proofs.covers.take_over_tells.Goals as goal

pub returns : goal.returns
returns c = take_over_tells
