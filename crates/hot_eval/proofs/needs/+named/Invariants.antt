use Rattle.std.proofs.Common.{◌≡◌, ◌++◌, ◌*◌, drop, map}
use Rattle.heat_value.specs.Meaning.{data_of, nodes_of, members_of, weight, nodes_weight, members_weight}
use Rattle.eval_words.specs.Needs.{references_among, references_under}
use Rattle.hot_eval.proofs.needs.+named.Given as goal

-- the names so far, and those of what is left
abbrev pub invariant-add_among-loop-value : goal.invariant-add_among-loop-value
invariant-add_among-loop-value l =
    map (λ t. t.now) l.named.items ++ references_among (nodes_of (drop l.value-index l.values))
    ≡ map (λ t. t.now) l.fn.named.items ++ references_among (nodes_of l.values)

abbrev pub invariant-add_under-loop-member : goal.invariant-add_under-loop-member
invariant-add_under-loop-member l =
    map (λ t. t.now) l.named.items ++ references_under (members_of (drop l.member-index l.members))
    ≡ map (λ t. t.now) l.fn.named.items ++ references_under (members_of l.members)

abbrev pub decreases-add_in : goal.decreases-add_in
decreases-add_in l = 2 * weight (data_of l.value.now)

abbrev pub decreases-add_among : goal.decreases-add_among
decreases-add_among l = 2 * nodes_weight (nodes_of l.values.now)

abbrev pub decreases-add_under : goal.decreases-add_under
decreases-add_under l = 2 * members_weight (members_of l.members.now)
