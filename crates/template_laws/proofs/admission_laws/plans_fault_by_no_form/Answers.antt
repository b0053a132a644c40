use Rattle.template_laws.proofs.Admitted.{plans_law}
use Rattle.template_laws.proofs.admission_laws.plans_fault_by_no_form.Goals as goal

pub returns : goal.returns
returns c = plans_law
