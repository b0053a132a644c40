use Rattle.next_laws.proofs.Finds.{old_is_stale}
use Rattle.next_laws.proofs.work_laws.old_is_stale.Goals as goal

pub returns : goal.returns
returns c = old_is_stale
