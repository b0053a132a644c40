use Rattle.graph_laws.proofs.graphs.Engines.{graphs_kept}
use Rattle.graph_laws.proofs.graphs.graphs_kept_by_engines.Goals as goal

pub returns : goal.returns
returns c = graphs_kept
