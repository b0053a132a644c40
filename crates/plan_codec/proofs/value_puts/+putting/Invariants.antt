use Rattle.std.proofs.Common.{◌≡◌, ◌++◌, ◌+◌, ◌*◌, All, take, length}
use Rattle.std.specs.List.{flat_map}
use Rattle.heat_value.specs.Meaning.{data_of, nodes_of, members_of, weight, nodes_weight, members_weight}
use Rattle.plan_codec.specs.Numbers.{spelled_number}
use Rattle.plan_codec.specs.Sheets.{behind}
use Rattle.plan_codec.specs.ValueLaws.{of_value, is_value, of_member, is_member}
use Rattle.plan_codec.proofs.value_puts.+putting.Given as goal

abbrev pub decreases-put_value : goal.decreases-put_value
decreases-put_value l = 2 * weight (data_of l.value.now)

abbrev pub decreases-put_values : goal.decreases-put_values
decreases-put_values l = 2 * nodes_weight (nodes_of l.values.now)

abbrev pub decreases-put_members : goal.decreases-put_members
decreases-put_members l = 2 * members_weight (members_of l.members.now)

abbrev pub decreases-put_member : goal.decreases-put_member
decreases-put_member l = 2 * weight (data_of l.member.now.value) + 1

abbrev pub invariant-put_values-loop-value : goal.invariant-put_values-loop-value
invariant-put_values-loop-value l = record {
  so : l.sheet ≡ behind l.fn.sheet (spelled_number (length l.values) ++ flat_map of_value (take l.value-index l.values));
  each : All is_value (take l.value-index l.values);
}

abbrev pub invariant-put_members-loop-member : goal.invariant-put_members-loop-member
invariant-put_members-loop-member l = record {
  so : l.sheet ≡ behind l.fn.sheet (spelled_number (length l.members) ++ flat_map of_member (take l.member-index l.members));
  each : All is_member (take l.member-index l.members);
}
