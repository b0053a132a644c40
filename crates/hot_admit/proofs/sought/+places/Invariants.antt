use Rattle.std.proofs.Common.{◌≡◌, ◌*◌, drop}
use Rattle.heat_value.specs.Meaning.{data_of, nodes_of, members_of, weight, nodes_weight, members_weight}
use Rattle.hot_admit.specs.Places.{place_among, place_under}
use Rattle.hot_admit.specs.Sought.{sort_of}
use Rattle.hot_admit.proofs.sought.+places.Given as goal

-- what is left decides
abbrev pub invariant-place_among-loop-i : goal.invariant-place_among-loop-i
invariant-place_among-loop-i l =
    place_among (sort_of l.sought) 0 (nodes_of l.values)
    ≡ place_among (sort_of l.sought) l.i (nodes_of (drop l.i l.values))

abbrev pub invariant-place_under-loop-member : goal.invariant-place_under-loop-member
invariant-place_under-loop-member l =
    place_under (sort_of l.sought) (members_of l.members)
    ≡ place_under (sort_of l.sought) (members_of (drop l.member-index l.members))

abbrev pub decreases-place_in : goal.decreases-place_in
decreases-place_in l = 2 * weight (data_of l.value.now)

abbrev pub decreases-place_among : goal.decreases-place_among
decreases-place_among l = 2 * nodes_weight (nodes_of l.values.now)

abbrev pub decreases-place_under : goal.decreases-place_under
decreases-place_under l = 2 * members_weight (members_of l.members.now)
