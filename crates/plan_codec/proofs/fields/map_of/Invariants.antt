use Rattle.std.proofs.Common.{◌≡◌}
use Rattle.heat_value.specs.Data.{no_members}
use Rattle.plan_codec.proofs.RisingMaps.{with_all}
use Rattle.plan_codec.proofs.fields.map_of.Given as goal

-- the members so far and those that are left are all
abbrev pub invariant-loop-member : goal.invariant-loop-member
invariant-loop-member l = with_all l.props l.member-iterator.rest.items ≡ with_all no_members l.fn.members.items
