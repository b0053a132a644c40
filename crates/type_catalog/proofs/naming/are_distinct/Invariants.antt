use Rattle.std.proofs.Common.{◌≡◌, drop, map}
use Rattle.type_catalog.specs.Names.{are_distinct}
use Rattle.type_catalog.proofs.naming.are_distinct.Given as goal

-- what is left decides
abbrev pub invariant-loop-i : goal.invariant-loop-i
invariant-loop-i g l =
    are_distinct (map g.T.HasName.name_of l.all) ≡ are_distinct (map g.T.HasName.name_of (drop l.i l.all))
