use Rattle.graph_laws.proofs.marks.Pasts.{pasts_by_moves}
use Rattle.graph_laws.proofs.marks.pasts_kept_by_moves.Goals as goal

pub returns : goal.returns
returns c = pasts_by_moves
