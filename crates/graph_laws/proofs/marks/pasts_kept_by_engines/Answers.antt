use Rattle.graph_laws.proofs.marks.Engines.{pasts_by_engines}
use Rattle.graph_laws.proofs.marks.pasts_kept_by_engines.Goals as goal

pub returns : goal.returns
returns c = pasts_by_engines
