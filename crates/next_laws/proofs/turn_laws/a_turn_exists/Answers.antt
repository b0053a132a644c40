use Rattle.next_laws.proofs.Turning.{turn_exists}
use Rattle.next_laws.proofs.turn_laws.a_turn_exists.Goals as goal

pub returns : goal.returns
returns c = turn_exists
