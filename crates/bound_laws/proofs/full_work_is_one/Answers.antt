use Rattle.bound_laws.proofs.Full.{full_one}
use Rattle.bound_laws.proofs.full_work_is_one.Goals as goal

pub returns : goal.returns
returns c = full_one
