use Rattle.std.proofs.Common.{◌≡◌, ◌*◌, ◌+◌, drop}
use Rattle.heat_value.specs.Meaning.{data_of, nodes_of, members_of, weight, nodes_weight, members_weight}
use Rattle.hot_functions.specs.Walk.{items_flaw, members_flaw}
use Rattle.hot_functions.proofs.walk.+walk.Given as goal

-- what is left decides
abbrev pub invariant-items_flaw-loop-i : goal.invariant-items_flaw-loop-i
invariant-items_flaw-loop-i l =
    items_flaw l.params l.conds l.place 0 (nodes_of l.values)
    ≡ items_flaw l.params l.conds l.place l.i (nodes_of (drop l.i l.values))

abbrev pub invariant-members_flaw-loop-member : goal.invariant-members_flaw-loop-member
invariant-members_flaw-loop-member l =
    members_flaw l.params l.conds l.place (members_of l.members)
    ≡ members_flaw l.params l.conds l.place (members_of (drop l.member-index l.members))

abbrev pub decreases-value_flaw : goal.decreases-value_flaw
decreases-value_flaw l = 2 * weight (data_of l.value.now)

abbrev pub decreases-items_flaw : goal.decreases-items_flaw
decreases-items_flaw l = 2 * nodes_weight (nodes_of l.values.now)

abbrev pub decreases-fields_flaw : goal.decreases-fields_flaw
decreases-fields_flaw l = 2 * members_weight l.fields.now + 1

abbrev pub decreases-members_flaw : goal.decreases-members_flaw
decreases-members_flaw l = 2 * members_weight (members_of l.members.now)
