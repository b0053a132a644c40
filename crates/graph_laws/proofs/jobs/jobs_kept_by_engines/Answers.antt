use Rattle.graph_laws.proofs.jobs.Engines.{jobs_kept}
use Rattle.graph_laws.proofs.jobs.jobs_kept_by_engines.Goals as goal

pub returns : goal.returns
returns c = jobs_kept
