use Rattle.history_laws.proofs.leaves.Closings.{runs_close_once}
use Rattle.history_laws.proofs.leaves.runs_close_once.Goals as goal

pub returns : goal.returns
returns c = runs_close_once
