use Rattle.bound_laws.proofs.Remains.{work_left}
use Rattle.bound_laws.proofs.some_work_is_left.Goals as goal

pub returns : goal.returns
returns c = work_left
