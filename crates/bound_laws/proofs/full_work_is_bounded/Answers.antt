use Rattle.bound_laws.proofs.Full.{work_bounded}
use Rattle.bound_laws.proofs.full_work_is_bounded.Goals as goal

pub returns : goal.returns
returns c = work_bounded
