use Rattle.workable_laws.proofs.Openings.{has_work, may_ask}
use Rattle.workable_laws.proofs.Runs.{workable_next}
use Rattle.workable_laws.proofs.a_workable_state_has_work.Goals as goal

pub returns-clause-work : goal.returns-clause-work
returns-clause-work c = has_work

pub returns-clause-asks : goal.returns-clause-asks
returns-clause-asks c = may_ask

pub returns-clause-next : goal.returns-clause-next
returns-clause-next c = workable_next
