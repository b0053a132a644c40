use Rattle.bound_laws.proofs.Few.{turns_few}
use Rattle.bound_laws.proofs.turns_are_few.Goals as goal

pub returns : goal.returns
returns c = turns_few
