use Rattle.graph_laws.proofs.marks.Kept.{marks_by_moves}
use Rattle.graph_laws.proofs.marks.marks_kept_by_moves.Goals as goal

pub returns : goal.returns
returns c = marks_by_moves
