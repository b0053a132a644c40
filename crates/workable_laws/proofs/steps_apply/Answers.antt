use Rattle.workable_laws.proofs.Applied.{steps_apply}
use Rattle.workable_laws.proofs.Keepable.{steps_are_keepable}
use Rattle.workable_laws.proofs.steps_apply.Goals as goal

pub returns-clause-apply : goal.returns-clause-apply
returns-clause-apply c = steps_apply

pub returns-clause-keepable : goal.returns-clause-keepable
returns-clause-keepable c = steps_are_keepable
