use Rattle.graph_laws.proofs.covers.Moves.{covers_moved}
use Rattle.graph_laws.proofs.covers.covered_by_moves.Goals as goal

pub returns : goal.returns
returns c = covers_moved
