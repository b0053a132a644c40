use Rattle.std.proofs.Common.{◌≡◌, drop}
use Rattle.heat_value.specs.Meaning.{nodes_of}
use Rattle.hot_forms.specs.Constraints.{constraints_flaw}
use Rattle.hot_forms.proofs.constraint.constraints_flaw.Given as goal

-- what is left decides
abbrev pub invariant-loop-i : goal.invariant-loop-i
invariant-loop-i l =
    constraints_flaw l.sort 0 l.items ≡ constraints_flaw l.sort l.i (nodes_of (drop l.i l.value-items))
