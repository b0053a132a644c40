use Rattle.std.proofs.Common.{◌≡◌, ◌*◌, drop}
use Rattle.heat_value.specs.Meaning.{data_of, nodes_of, members_of, weight, nodes_weight, members_weight}
use Rattle.hot_groups.specs.Groups.{has_function_among, has_function_under}
use Rattle.hot_groups.proofs.counting.+functions.Given as goal

-- what is left decides
abbrev pub invariant-has_function_among-loop-value : goal.invariant-has_function_among-loop-value
invariant-has_function_among-loop-value l =
    has_function_among (nodes_of l.values) ≡ has_function_among (nodes_of (drop l.value-index l.values))

abbrev pub invariant-has_function_under-loop-member : goal.invariant-has_function_under-loop-member
invariant-has_function_under-loop-member l =
    has_function_under (members_of l.members) ≡ has_function_under (members_of (drop l.member-index l.members))

abbrev pub decreases-has_function : goal.decreases-has_function
decreases-has_function l = 2 * weight (data_of l.value.now)

abbrev pub decreases-has_function_among : goal.decreases-has_function_among
decreases-has_function_among l = 2 * nodes_weight (nodes_of l.values.now)

abbrev pub decreases-has_function_under : goal.decreases-has_function_under
decreases-has_function_under l = 2 * members_weight (members_of l.members.now)
