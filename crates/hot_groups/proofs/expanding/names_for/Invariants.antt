use Rattle.std.proofs.Common.{◌≡◌}
use Rattle.hot_groups.specs.Groups.{names_from}
use Rattle.hot_groups.proofs.expanding.names_for.Given as goal

-- the first names
abbrev pub invariant-loop-i : goal.invariant-loop-i
invariant-loop-i l = l.names ≡ names_from l.group 0 l.i
