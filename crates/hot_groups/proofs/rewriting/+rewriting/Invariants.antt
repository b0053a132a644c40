use Rattle.std.proofs.Common.{◌≡◌, ◌*◌, ◌+◌, take}
use Rattle.heat_value.specs.Meaning.{data_of, nodes_of, members_of, weight, nodes_weight, members_weight}
use Rattle.hot_groups.specs.References.{nodes_rewritten, members_rewritten}
use Rattle.hot_groups.proofs.rewriting.+rewriting.Given as goal

-- those of the first values
abbrev pub invariant-nodes_rewritten-loop-value : goal.invariant-nodes_rewritten-loop-value
invariant-nodes_rewritten-loop-value l = l.all ≡ nodes_rewritten l.groups (nodes_of (take l.value-index l.values))

-- those of the first members
abbrev pub invariant-members_rewritten-loop-member : goal.invariant-members_rewritten-loop-member
invariant-members_rewritten-loop-member l =
    l.all ≡ members_rewritten l.groups (members_of (take l.member-index l.members))

abbrev pub decreases-rewritten : goal.decreases-rewritten
decreases-rewritten l = 2 * weight (data_of l.value.now)

abbrev pub decreases-object_rewritten : goal.decreases-object_rewritten
decreases-object_rewritten l = 2 * members_weight l.fields.now + 1

abbrev pub decreases-nodes_rewritten : goal.decreases-nodes_rewritten
decreases-nodes_rewritten l = 2 * nodes_weight (nodes_of l.values.now)

abbrev pub decreases-members_rewritten : goal.decreases-members_rewritten
decreases-members_rewritten l = 2 * members_weight (members_of l.members.now)
