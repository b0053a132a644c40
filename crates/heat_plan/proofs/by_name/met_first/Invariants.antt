use Rattle.std.proofs.Common.{◌≡◌, drop}
use Rattle.heat_plan.specs.Named.{first_named}
use Rattle.heat_plan.proofs.by_name.met_first.Given as goal

-- what is left decides
abbrev pub invariant-loop-thing : goal.invariant-loop-thing
invariant-loop-thing g l =
    first_named g.T.HasName.name_of l.name l.list ≡ first_named g.T.HasName.name_of l.name (drop l.thing-index l.list)
