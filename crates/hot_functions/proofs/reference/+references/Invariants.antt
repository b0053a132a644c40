use Rattle.std.proofs.Common.{◌≡◌, ◌*◌, ◌+◌, drop}
use Rattle.heat_value.specs.Meaning.{data_of, nodes_of, members_of, weight, nodes_weight, members_weight}
use Rattle.hot_functions.specs.References.{reference_among, reference_under}
use Rattle.hot_functions.proofs.reference.+references.Given as goal

-- what is left decides
abbrev pub invariant-reference_among-loop-i : goal.invariant-reference_among-loop-i
invariant-reference_among-loop-i l =
    reference_among 0 (nodes_of l.values) ≡ reference_among l.i (nodes_of (drop l.i l.values))

abbrev pub invariant-reference_under-loop-member : goal.invariant-reference_under-loop-member
invariant-reference_under-loop-member l =
    reference_under (members_of l.members) ≡ reference_under (members_of (drop l.member-index l.members))

abbrev pub decreases-reference_in : goal.decreases-reference_in
decreases-reference_in l = 2 * weight (data_of l.value.now)

abbrev pub decreases-reference_among : goal.decreases-reference_among
decreases-reference_among l = 2 * nodes_weight (nodes_of l.values.now)

abbrev pub decreases-reference_under : goal.decreases-reference_under
decreases-reference_under l = 2 * members_weight (members_of l.members.now)
