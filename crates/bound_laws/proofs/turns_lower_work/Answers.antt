use Rattle.bound_laws.proofs.Turning.{turns_lower}
use Rattle.bound_laws.proofs.turns_lower_work.Goals as goal

pub returns : goal.returns
returns c = turns_lower
