use Rattle.bound_laws.proofs.Told.{work_exists}
use Rattle.bound_laws.proofs.work_exists.Goals as goal

pub returns : goal.returns
returns c = work_exists
