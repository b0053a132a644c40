-- The codes and paths of faults.
use Rattle.std.specs.Prelude.{ℕ, List, Option, Some, None, codes, ⊤}
use Rattle.heat_value.specs.Data.{Members}
use Rattle.heat_value.specs.declared.path.Step.{Step}
use Rattle.hot_admit.specs.Admission.{IsRefused}
use Rattle.hot_admit.specs.Codes.{code_text, flaw_at}
use Rattle.hot_admit.specs.Plans.{Given}
use Rattle.hot_admit.specs.declared.code.AdmitCode.TheVariants as code
use Rattle.hot_admit.specs.declared.fault.AdmitFault.{AdmitFault}
use Rattle.hot_admit.specs.declared.fault.AdmitFault.TheVariants as admit
use Rattle.hot_admit.specs.declared.fault.CondFault.{CondFault}
use Rattle.hot_admit.specs.declared.fault.CondFault.TheVariants as cond

-- the code that a fault of conditions is noted with; want of memory has none
abbrev pub cond_fault_code : CondFault → Option (List ℕ)
cond_fault_code (cond.C01 p) = Some (codes "C01")
cond_fault_code (cond.C02 p) = Some (codes "C02")
cond_fault_code cond.Memory = None

-- the path that is noted with it
abbrev pub cond_fault_path : CondFault → Option (List Step)
cond_fault_path (cond.C01 p) = Some p
cond_fault_path (cond.C02 p) = Some p
cond_fault_path cond.Memory = None

-- the same of admission
abbrev pub admit_fault_code : AdmitFault → Option (List ℕ)
admit_fault_code (admit.Wrong f) = Some (code_text f.code)
admit_fault_code admit.Memory = None

abbrev pub admit_fault_path : AdmitFault → Option (List Step)
admit_fault_path (admit.Wrong f) = Some f.path
admit_fault_path admit.Memory = None

-- admission is refused for the same reason
abbrev pub as_admission : CondFault → AdmitFault
as_admission (cond.C01 p) = admit.Wrong (flaw_at code.C01 p)
as_admission (cond.C02 p) = admit.Wrong (flaw_at code.C02 p)
as_admission cond.Memory = admit.Memory

-- the fault is the template's first, or want of memory
abbrev pub IsAdmitFaultOf : Members → Given → AdmitFault → Type 0
IsAdmitFaultOf template given (admit.Wrong f) = IsRefused template given f
IsAdmitFaultOf template given admit.Memory = ⊤
