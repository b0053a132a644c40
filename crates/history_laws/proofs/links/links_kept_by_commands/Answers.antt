use Rattle.history_laws.proofs.links.Laid.{links_by_commands}
use Rattle.history_laws.proofs.links.links_kept_by_commands.Goals as goal

pub returns : goal.returns
returns c = links_by_commands
