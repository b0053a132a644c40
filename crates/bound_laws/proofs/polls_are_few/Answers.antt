use Rattle.bound_laws.proofs.Told.{polls_few}
use Rattle.bound_laws.proofs.polls_are_few.Goals as goal

pub returns : goal.returns
returns c = polls_few
