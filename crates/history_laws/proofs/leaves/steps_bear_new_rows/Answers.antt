use Rattle.history_laws.proofs.leaves.Bears.{steps_bear}
use Rattle.history_laws.proofs.leaves.steps_bear_new_rows.Goals as goal

pub returns : goal.returns
returns c = steps_bear
