use Rattle.graph_laws.proofs.jobs.Moves.{jobs_moved}
use Rattle.graph_laws.proofs.jobs.jobs_kept_by_moves.Goals as goal

pub returns : goal.returns
returns c = jobs_moved
