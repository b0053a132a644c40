use Rattle.std.proofs.Common.{◌≡◌, ◌++◌, ◌*◌, drop, map}
use Rattle.heat_value.specs.Meaning.{data_of, nodes_of, members_of, weight, nodes_weight, members_weight}
use Rattle.eval_words.specs.Conditions.{names_read_among, names_read_under}
use Rattle.hot_admit.proofs.names.+names_read.Given as goal

-- the names so far, and those of what is left
abbrev pub invariant-add_read_among-loop-i : goal.invariant-add_read_among-loop-i
invariant-add_read_among-loop-i l =
    map (λ t. t.now) l.names.items ++ names_read_among l.place l.i (nodes_of (drop l.i l.values))
    ≡ map (λ t. t.now) l.fn.names.items ++ names_read_among l.place 0 (nodes_of l.values)

abbrev pub invariant-add_read_under-loop-member : goal.invariant-add_read_under-loop-member
invariant-add_read_under-loop-member l =
    map (λ t. t.now) l.names.items ++ names_read_under l.place (members_of (drop l.member-index l.members))
    ≡ map (λ t. t.now) l.fn.names.items ++ names_read_under l.place (members_of l.members)

abbrev pub decreases-add_read : goal.decreases-add_read
decreases-add_read l = 2 * weight (data_of l.value.now)

abbrev pub decreases-add_read_among : goal.decreases-add_read_among
decreases-add_read_among l = 2 * nodes_weight (nodes_of l.values.now)

abbrev pub decreases-add_read_under : goal.decreases-add_read_under
decreases-add_read_under l = 2 * members_weight (members_of l.members.now)
