use Rattle.std.proofs.Common.{◌≡◌, drop}
use Rattle.heat_value.specs.Meaning.{nodes_of}
use Rattle.hot_forms.specs.Constraints.{are_constraints}
use Rattle.hot_forms.proofs.constraint.are_constraints.Given as goal

-- what is left decides
abbrev pub invariant-loop-value : goal.invariant-loop-value
invariant-loop-value l = are_constraints l.items ≡ are_constraints (nodes_of (drop l.value-index l.value-items))
