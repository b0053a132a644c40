-- The checks of a section's entries, by their names.
use Rattle.std.specs.Prelude.{ℕ, List, Option, codes}
use Rattle.heat_value.specs.Data.{Data, Members}
use Rattle.hot_forms.specs.Parameters.{parameter_flaw}
use Rattle.hot_forms.specs.declared.flaw.Flaw.{Flaw}
use Rattle.hot_tree.specs.Entries.{condition_flaw, resource_flaw, output_flaw}
use Rattle.hot_tree.specs.Functions.{condition_functions, resource_functions, output_functions}
use Rattle.hot_tree.specs.declared.pass.Pass.{Pass}
use Rattle.hot_tree.specs.declared.pass.Pass.TheVariants as pass

-- the check that a pass makes of each entry
abbrev pub check_of : Pass → Members → Members → List ℕ → Data → Option Flaw
check_of pass.Parameters params conds = parameter_flaw
check_of pass.Conditions params conds = condition_flaw
check_of pass.Resources params conds = resource_flaw
check_of pass.Outputs params conds = output_flaw
check_of pass.ConditionFunctions params conds = λ name d. condition_functions params conds d
check_of pass.ResourceFunctions params conds = λ name d. resource_functions params conds d
check_of pass.OutputFunctions params conds = λ name d. output_functions params conds d

-- the section that a pass goes through
abbrev pub section_of : Pass → List ℕ
section_of pass.Parameters = codes "parameters"
section_of pass.Conditions = codes "conditions"
section_of pass.Resources = codes "resources"
section_of pass.Outputs = codes "outputs"
section_of pass.ConditionFunctions = codes "conditions"
section_of pass.ResourceFunctions = codes "resources"
section_of pass.OutputFunctions = codes "outputs"
