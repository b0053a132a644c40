use Rattle.graph_laws.proofs.marks.Engines.{marks_by_engines}
use Rattle.graph_laws.proofs.marks.marks_kept_by_engines.Goals as goal

pub returns : goal.returns
returns c = marks_by_engines
