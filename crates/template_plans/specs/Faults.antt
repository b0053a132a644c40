-- The codes of why a body has no plan, and where.
use Rattle.std.specs.Prelude.{ℕ, List, Option, Some, None}
use Rattle.heat_value.specs.declared.path.Step.{Step}
use Rattle.hot_admit.specs.Codes as admission
use Rattle.hot_admit.specs.declared.fault.AdmitFault.{AdmitFault}
use Rattle.hot_admit.specs.declared.fault.AdmitFault.TheVariants as admit
use Rattle.hot_forms.specs.Codes as form
use Rattle.hot_params.specs.Codes as parameter
use Rattle.hot_params.specs.declared.fault.ParamFault.{ParamFault}
use Rattle.hot_params.specs.declared.fault.ParamFault.TheVariants as param
use Rattle.hot_tree.specs.declared.fault.HotFault.{HotFault}
use Rattle.hot_tree.specs.declared.fault.HotFault.TheVariants as hot
use Rattle.template_plans.specs.declared.fault.PlanFault.{PlanFault}
use Rattle.template_plans.specs.declared.fault.PlanFault.TheVariants.{Template, Parameters, Admission, Memory}

-- the code that the line is noted with; want of memory has none
abbrev pub fault_code : PlanFault → Option (List ℕ)
fault_code (Template f) = Some (form.code_text f.code)
fault_code (Parameters f) = Some (parameter.code_text f.code)
fault_code (Admission f) = Some (admission.code_text f.code)
fault_code Memory = None

-- the path that is noted with it
abbrev pub fault_path : PlanFault → Option (List Step)
fault_path (Template f) = Some f.path
fault_path (Parameters f) = Some f.path
fault_path (Admission f) = Some f.path
fault_path Memory = None

-- a fault of reading, of binding, of admission as one of the plan
abbrev pub of_template : HotFault → PlanFault
of_template (hot.Wrong f) = Template f
of_template hot.Memory = Memory

abbrev pub of_parameters : ParamFault → PlanFault
of_parameters (param.Wrong f) = Parameters f
of_parameters param.Memory = Memory

abbrev pub of_admission : AdmitFault → PlanFault
of_admission (admit.Wrong f) = Admission f
of_admission admit.Memory = Memory
