use Rattle.std.proofs.Common.{take}
use Rattle.heat_value.specs.Meaning.{members_of}
use Rattle.hot_tree.specs.Readings.{AreEach}
use Rattle.hot_tree.specs.PartEntries.{IsRes}
use Rattle.hot_tree.proofs.res.resources_of.Given as goal

-- those of the first entries
abbrev pub invariant-loop-member : goal.invariant-loop-member
invariant-loop-member l = AreEach IsRes (members_of (take l.member-index l.members)) l.resources
