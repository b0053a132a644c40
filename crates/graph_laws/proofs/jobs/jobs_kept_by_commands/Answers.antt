use Rattle.graph_laws.proofs.jobs.Commands.{jobs_laid}
use Rattle.graph_laws.proofs.jobs.jobs_kept_by_commands.Goals as goal

pub returns : goal.returns
returns c = jobs_laid
