use Rattle.next_laws.proofs.Ranges.{steps_in_range}
use Rattle.next_laws.proofs.steps_stay_in_range.Goals as goal

pub returns : goal.returns
returns c = steps_in_range
