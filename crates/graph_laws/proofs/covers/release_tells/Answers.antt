use Rattle.graph_laws.proofs.covers.Cases.{release_tells}
use Rattle.graph_laws.proofs.covers.release_tells.Goals as goal

pub returns : goal.returns
returns c = release_tells
