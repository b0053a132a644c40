use Rattle.graph_laws.proofs.covers.Engines.{covers_kept}
use Rattle.graph_laws.proofs.covers.covered_by_engines.Goals as goal

pub returns : goal.returns
returns c = covers_kept
