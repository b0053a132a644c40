use Rattle.std.proofs.Common.{◌≡◌, ◌-◌}
use Rattle.hot_groups.specs.Checks.{some_barred}
use Rattle.hot_groups.proofs.checking.some_barred.Given as goal

-- the members that are left decide
abbrev pub invariant-loop-i : goal.invariant-loop-i
invariant-loop-i l = some_barred l.resources l.group 0 l.count ≡ some_barred l.resources l.group l.i (l.count - l.i)
