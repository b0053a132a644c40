use Rattle.next_laws.proofs.Fitting.{turn_is_live, turn_suits}
use Rattle.next_laws.proofs.turn_laws.a_turn_is_of_what_is_next.Goals as goal

pub returns-clause-suits : goal.returns-clause-suits
returns-clause-suits c = turn_suits

pub returns-clause-live : goal.returns-clause-live
returns-clause-live c = turn_is_live
