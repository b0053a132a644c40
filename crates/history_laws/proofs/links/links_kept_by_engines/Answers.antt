use Rattle.history_laws.proofs.links.Engines.{links_by_engines}
use Rattle.history_laws.proofs.links.links_kept_by_engines.Goals as goal

pub returns : goal.returns
returns c = links_by_engines
