use Rattle.std.proofs.Common.{◌≡◌, drop}
use Rattle.heat_value.specs.Meaning.{members_of}
use Rattle.hot_forms.specs.Constraints.{are_counts}
use Rattle.hot_forms.proofs.argument.are_counts.Given as goal

-- what is left decides
abbrev pub invariant-loop-bound : goal.invariant-loop-bound
invariant-loop-bound l = are_counts l.bounds ≡ are_counts (members_of (drop l.bound-index l.bound-items))
