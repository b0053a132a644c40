use Rattle.template_laws.proofs.NoForm.{values_law, conditions_law, properties_law}
use Rattle.template_laws.proofs.evaluation_laws.faults_by_no_form.Goals as goal

pub returns-clause-values : goal.returns-clause-values
returns-clause-values c = values_law

pub returns-clause-conditions : goal.returns-clause-conditions
returns-clause-conditions c = conditions_law

pub returns-clause-properties : goal.returns-clause-properties
returns-clause-properties c = properties_law
