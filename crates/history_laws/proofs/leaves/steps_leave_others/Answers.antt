use Rattle.history_laws.proofs.leaves.Leaves.{leaves_others}
use Rattle.history_laws.proofs.leaves.steps_leave_others.Goals as goal

pub returns : goal.returns
returns c = leaves_others
