use Rattle.graph_laws.proofs.marks.Laid.{marks_by_commands}
use Rattle.graph_laws.proofs.marks.marks_kept_by_commands.Goals as goal

pub returns : goal.returns
returns c = marks_by_commands
