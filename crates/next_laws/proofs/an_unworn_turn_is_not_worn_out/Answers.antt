use Rattle.next_laws.proofs.Worn.{call_not_worn, quiet_not_worn}
use Rattle.next_laws.proofs.an_unworn_turn_is_not_worn_out.Goals as goal

pub returns-clause-quiet : goal.returns-clause-quiet
returns-clause-quiet c = quiet_not_worn

pub returns-clause-call : goal.returns-clause-call
returns-clause-call c = call_not_worn
