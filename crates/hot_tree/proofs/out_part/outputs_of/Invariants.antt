use Rattle.std.proofs.Common.{take}
use Rattle.heat_value.specs.Meaning.{members_of}
use Rattle.hot_tree.specs.Readings.{AreEach}
use Rattle.hot_tree.specs.PartEntries.{IsOut}
use Rattle.hot_tree.proofs.out_part.outputs_of.Given as goal

-- those of the first entries
abbrev pub invariant-loop-member : goal.invariant-loop-member
invariant-loop-member l = AreEach IsOut (members_of (take l.member-index l.members)) l.outputs
