use Rattle.template_laws.proofs.Admitted.{formed_law, faults_law}
use Rattle.template_laws.proofs.admission_laws.admitted_faults_by_no_form.Goals as goal

pub returns-clause-formed : goal.returns-clause-formed
returns-clause-formed c = formed_law

pub returns-clause-faults : goal.returns-clause-faults
returns-clause-faults c = faults_law
