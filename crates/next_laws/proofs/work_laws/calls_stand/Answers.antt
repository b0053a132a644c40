use Rattle.next_laws.proofs.Finds.{calls_stand}
use Rattle.next_laws.proofs.work_laws.calls_stand.Goals as goal

pub returns : goal.returns
returns c = calls_stand
