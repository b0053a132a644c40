use Rattle.workable_laws.proofs.Runs.{runs_have_next, runs_stay}
use Rattle.workable_laws.proofs.runs_stay_workable.Goals as goal

pub returns-clause-workable : goal.returns-clause-workable
returns-clause-workable c = runs_stay

pub returns-clause-next : goal.returns-clause-next
returns-clause-next c = runs_have_next
