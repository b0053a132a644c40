use Rattle.workable_laws.proofs.Stepped.{steps_keep}
use Rattle.workable_laws.proofs.steps_keep_workable.Goals as goal

pub returns : goal.returns
returns c = steps_keep
