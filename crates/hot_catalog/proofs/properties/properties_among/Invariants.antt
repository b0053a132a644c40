use Rattle.std.proofs.Common.{◌≡◌, ◌++◌, drop}
use Rattle.heat_value.specs.Meaning.{members_of}
use Rattle.hot_catalog.specs.Definitions.{properties_among}
use Rattle.hot_catalog.proofs.properties.properties_among.Given as goal

-- those so far and those left are all
abbrev pub invariant-loop-member : goal.invariant-loop-member
invariant-loop-member l =
    l.props ++ properties_among (members_of (drop l.member-index l.member-items)) ≡ properties_among l.members
