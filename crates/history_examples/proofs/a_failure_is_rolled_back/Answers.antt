use Rattle.history_examples.proofs.RolledBack.{is_rolled_back}
use Rattle.history_examples.proofs.a_failure_is_rolled_back.Goals as goal

pub returns : goal.returns
returns c = is_rolled_back
