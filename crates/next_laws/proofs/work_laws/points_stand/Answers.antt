use Rattle.next_laws.proofs.Finds.{points_stand}
use Rattle.next_laws.proofs.work_laws.points_stand.Goals as goal

pub returns : goal.returns
returns c = points_stand
