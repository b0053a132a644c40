use Rattle.next_laws.proofs.Turns.{turn_one}
use Rattle.next_laws.proofs.a_turn_is_one.Goals as goal

pub returns : goal.returns
returns c = turn_one
