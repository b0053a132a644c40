-- The codes of refusals.
use Rattle.std.specs.Prelude.{ℕ, List, Option, Some, None, codes}
use Rattle.heat_plan.specs.declared.refusal.Refusal.{Refusal}
use Rattle.heat_plan.specs.declared.refusal.Refusal.TheVariants.{StackExists, NoStack, Deleting, TooManyStacks}
use Rattle.heat_plan.specs.declared.refusal.Refusal.TheVariants.{TooManyRows, Worn, NoEngine, TooManyEngines}
use Rattle.heat_plan.specs.declared.refusal.Refusal.TheVariants.{NotRunning, DiskFault, Memory}

abbrev pub code_of : Refusal → Option (List ℕ)
code_of StackExists = Some (codes "E10")
code_of NoStack = Some (codes "E11")
code_of Deleting = Some (codes "E12")
code_of TooManyStacks = Some (codes "E13")
code_of TooManyRows = Some (codes "E14")
code_of Worn = Some (codes "E15")
code_of NoEngine = Some (codes "E16")
code_of TooManyEngines = Some (codes "E17")
code_of NotRunning = Some (codes "E20")
code_of DiskFault = None
code_of Memory = None
