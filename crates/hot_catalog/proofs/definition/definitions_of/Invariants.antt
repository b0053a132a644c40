use Rattle.std.proofs.Common.{◌≡◌, ◌++◌, drop}
use Rattle.heat_value.specs.Meaning.{members_of}
use Rattle.hot_catalog.specs.Definitions.{definitions_of}
use Rattle.hot_catalog.proofs.definition.definitions_of.Given as goal

-- those so far and those left are all
abbrev pub invariant-loop-member : goal.invariant-loop-member
invariant-loop-member l =
    l.kinds.items ++ definitions_of (members_of (drop l.member-index l.member-items)) ≡ definitions_of l.line
