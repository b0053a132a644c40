use Rattle.bound_laws.proofs.Told.{work_one}
use Rattle.bound_laws.proofs.work_is_one.Goals as goal

pub returns : goal.returns
returns c = work_one
