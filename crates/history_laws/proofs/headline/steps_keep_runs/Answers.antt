use Rattle.history_laws.proofs.headline.MainTheorem.{steps_keep_runs}
use Rattle.history_laws.proofs.headline.steps_keep_runs.Goals as goal

pub returns : goal.returns
returns c = steps_keep_runs
