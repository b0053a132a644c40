use Rattle.std.proofs.Common.{◌+◌, ◌*◌}
use Rattle.plan_codec.proofs.ValueLists.{HasValues, HasMembers}
use Rattle.plan_codec.proofs.values.+values.Given as goal

abbrev pub decreases-value_at : goal.decreases-value_at
decreases-value_at l = 6 * l.limit + 6

abbrev pub decreases-items_value_at : goal.decreases-items_value_at
decreases-items_value_at l = 6 * l.limit + 5

abbrev pub decreases-fields_value_at : goal.decreases-fields_value_at
decreases-fields_value_at l = 6 * l.limit + 5

abbrev pub decreases-items_at : goal.decreases-items_at
decreases-items_at l = 6 * l.limit + 4

abbrev pub decreases-inner_fields_at : goal.decreases-inner_fields_at
decreases-inner_fields_at l = 6 * l.limit + 4

abbrev pub decreases-fields_at : goal.decreases-fields_at
decreases-fields_at l = 6 * l.limit + 9

abbrev pub decreases-members_at : goal.decreases-members_at
decreases-members_at l = 6 * l.limit + 8

abbrev pub decreases-member_at : goal.decreases-member_at
decreases-member_at l = 6 * l.limit + 7

abbrev pub invariant-items_at-loop : goal.invariant-items_at-loop
invariant-items_at-loop l = HasValues l.bytes l.rest l.count l.counter l.deep l.all

abbrev pub invariant-members_at-loop : goal.invariant-members_at-loop
invariant-members_at-loop l = HasMembers l.bytes l.rest l.count l.counter l.limit l.all.items
