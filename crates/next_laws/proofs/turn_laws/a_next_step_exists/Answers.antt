use Rattle.next_laws.proofs.Nexts.{next_exists}
use Rattle.next_laws.proofs.turn_laws.a_next_step_exists.Goals as goal

pub returns : goal.returns
returns c = next_exists
