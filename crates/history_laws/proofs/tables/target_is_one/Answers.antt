use Rattle.history_laws.proofs.tables.Targets.{target_once}
use Rattle.history_laws.proofs.tables.target_is_one.Goals as goal

pub returns : goal.returns
returns c = target_once
