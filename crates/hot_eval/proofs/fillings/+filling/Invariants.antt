use Rattle.std.proofs.Common.{◌+◌, ◌*◌, drop}
use Rattle.heat_value.specs.Meaning.{data_of, nodes_of, members_of, weight, nodes_weight, members_weight}
use Rattle.hot_eval.specs.Repeats.{choice_of}
use Rattle.hot_eval.proofs.Fills.{AreFilling, AreFillingKeys}
use Rattle.hot_eval.proofs.fillings.+filling.Given as goal

abbrev pub invariant-items_filled-loop-value : goal.invariant-items_filled-loop-value
invariant-items_filled-loop-value l =
    AreFilling (choice_of l.choice) l.fn.room l.room l.same l.items (nodes_of (drop l.value-index l.values))
    (nodes_of l.values)

abbrev pub invariant-fields_filled-loop-member : goal.invariant-fields_filled-loop-member
invariant-fields_filled-loop-member l =
    AreFillingKeys (choice_of l.choice) l.fn.room l.room l.same l.fields (members_of (drop l.member-index l.members))
    (members_of l.members)

abbrev pub decreases-fill : goal.decreases-fill
decreases-fill l = 2 * weight (data_of l.template.now)

abbrev pub decreases-items_filled : goal.decreases-items_filled
decreases-items_filled l = 2 * nodes_weight (nodes_of l.values.now)

abbrev pub decreases-fields_filled : goal.decreases-fields_filled
decreases-fields_filled l = 2 * members_weight (members_of l.members.now)

abbrev pub decreases-item_filled : goal.decreases-item_filled
decreases-item_filled l = 2 * weight (data_of l.value.now) + 1

abbrev pub decreases-member_filled : goal.decreases-member_filled
decreases-member_filled l = 2 * weight (data_of l.member.now.value) + 1
