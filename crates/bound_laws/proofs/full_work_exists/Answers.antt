use Rattle.bound_laws.proofs.Full.{full_exists}
use Rattle.bound_laws.proofs.full_work_exists.Goals as goal

pub returns : goal.returns
returns c = full_exists
