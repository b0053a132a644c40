-- The faults' codes, and the causes of each call's faults.
use Rattle.std.specs.Prelude.{ℕ, List, Option, Some, None, codes, ⊤}
use Rattle.heat_value.specs.Data.{Data}
use Rattle.hot_strings.specs.Size.{IsLongerThan}
use Rattle.hot_strings.specs.declared.fault.StringFault.{StringFault}
use Rattle.hot_strings.specs.declared.fault.StringFault.TheVariants.{F02, F03, F04, F06, Memory}

abbrev pub code_of : StringFault → Option (List ℕ)
code_of F02 = Some (codes "F02")
code_of F03 = Some (codes "F03")
code_of F04 = Some (codes "F04")
code_of F06 = Some (codes "F06")
code_of Memory = None

-- a fault that only the result can have: it is longer than it may be, or there was no memory
abbrev pub IsOfLimit : StringFault → ℕ → Data → Type 0
IsOfLimit F02 limit d = ⊥
IsOfLimit F03 limit d = ⊥
IsOfLimit F04 limit d = ⊥
IsOfLimit F06 limit d = IsLongerThan limit d
IsOfLimit Memory limit d = ⊤

-- the same of a function's result
abbrev pub IsOfResult : StringFault → Data → Type 0
IsOfResult e d = IsOfLimit e 1048576 d
