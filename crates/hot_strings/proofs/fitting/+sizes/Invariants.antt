use Rattle.std.proofs.Common.{◌≡◌, ◌+◌, ◌*◌, ◌-◌, ◌^◌, ℕ, length, drop, true}
use Rattle.std.specs.Prelude.{min}
use Rattle.heat_value.specs.Compact.{nodes_text, fields_text}
use Rattle.heat_value.specs.Meaning.{data_of, nodes_of, members_of, weight, nodes_weight, members_weight}
use Rattle.hot_strings.proofs.fitting.+sizes.Given as goal

-- the values so far and the rest take what all take
abbrev pub invariant-list_size-loop-value : goal.invariant-list_size-loop-value
invariant-list_size-loop-value l =
    (n : ℕ) × (l.size ≡ min n (2 ^ 64 - 1)) × (n + length (nodes_text true (nodes_of (drop l.value-index l.values))) ≡ 1 + length (nodes_text true (nodes_of l.values)))

abbrev pub invariant-map_size-loop-member : goal.invariant-map_size-loop-member
invariant-map_size-loop-member l =
    (n : ℕ) × (l.size ≡ min n (2 ^ 64 - 1)) × (n + length (fields_text true (members_of (drop l.member-index l.members))) ≡ 1 + length (fields_text true (members_of l.members)))

abbrev pub decreases-value_size : goal.decreases-value_size
decreases-value_size l = 2 * weight (data_of l.value.now)

abbrev pub decreases-list_size : goal.decreases-list_size
decreases-list_size l = 2 * nodes_weight (nodes_of l.values.now)

abbrev pub decreases-map_size : goal.decreases-map_size
decreases-map_size l = 2 * members_weight (members_of l.members.now)

abbrev pub decreases-member_size : goal.decreases-member_size
decreases-member_size l = 2 * weight (data_of l.member.now.value) + 1
