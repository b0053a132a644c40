use Rattle.graph_laws.proofs.marks.Laid.{pasts_by_commands}
use Rattle.graph_laws.proofs.marks.pasts_kept_by_commands.Goals as goal

pub returns : goal.returns
returns c = pasts_by_commands
