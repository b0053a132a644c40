use Rattle.std.proofs.Common.{◌≡◌, ◌++◌, drop}
use Rattle.heat_value.specs.Data.{keys_of}
use Rattle.heat_value.specs.Meaning.{members_of}
use Rattle.hot_catalog.proofs.attributes.keys_of.Given as goal

-- those so far and those left are all
abbrev pub invariant-loop-member : goal.invariant-loop-member
invariant-loop-member l = l.keys ++ keys_of (members_of (drop l.member-index l.member-items)) ≡ keys_of l.names
