use Rattle.std.proofs.Common.{◌↔◌, drop}
use Rattle.hot_strings.specs.Pieces.{AreDistinct}
use Rattle.hot_strings.proofs.keys.are_distinct.Given as goal

-- what is left decides
abbrev pub invariant-loop-i : goal.invariant-loop-i
invariant-loop-i l = AreDistinct l.params ↔ AreDistinct (drop l.i l.params)
