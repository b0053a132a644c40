use Rattle.std.proofs.Common.{◌≡◌, drop}
use Rattle.heat_value.specs.Meaning.{nodes_of}
use Rattle.hot_functions.specs.Forms.{are_conditions}
use Rattle.hot_functions.proofs.condition.are_conditions.Given as goal

-- what is left decides
abbrev pub invariant-loop-value : goal.invariant-loop-value
invariant-loop-value l = are_conditions (nodes_of l.values) ≡ are_conditions (nodes_of (drop l.value-index l.values))
