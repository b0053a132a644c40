use Rattle.graph_laws.proofs.graphs.Moves.{graphs_moved}
use Rattle.graph_laws.proofs.graphs.graphs_kept_by_moves.Goals as goal

pub returns : goal.returns
returns c = graphs_moved
