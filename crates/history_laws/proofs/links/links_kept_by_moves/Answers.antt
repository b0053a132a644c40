use Rattle.history_laws.proofs.links.Kept.{links_by_moves}
use Rattle.history_laws.proofs.links.links_kept_by_moves.Goals as goal

pub returns : goal.returns
returns c = links_by_moves
