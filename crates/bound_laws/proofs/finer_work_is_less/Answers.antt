use Rattle.bound_laws.proofs.Full.{work_less}
use Rattle.bound_laws.proofs.finer_work_is_less.Goals as goal

pub returns : goal.returns
returns c = work_less
