use Rattle.std.proofs.Common.{◌≡◌, ◌*◌, drop, take}
use Rattle.heat_value.specs.Data.{no_members}
use Rattle.heat_value.specs.Meaning.{data_of, nodes_of, members_of, weight, nodes_weight, members_weight}
use Rattle.hot_env.specs.Environments.{over}
use Rattle.hot_groups.specs.Numbers.{nodes_retold, members_retold}
use Rattle.hot_strings.specs.Answers.{with_values}
use Rattle.hot_groups.proofs.numbers.+retelling.Given as goal

-- those of the first values
abbrev pub invariant-nodes_retold-loop-value : goal.invariant-nodes_retold-loop-value
invariant-nodes_retold-loop-value l =
    l.all ≡ nodes_retold (with_values l.numbering) (nodes_of (take l.value-index l.values))

-- what is left goes over what there is
abbrev pub invariant-members_retold-loop-member : goal.invariant-members_retold-loop-member
invariant-members_retold-loop-member l =
    over no_members (members_retold (with_values l.numbering) (members_of l.members))
    ≡ over l.all (members_retold (with_values l.numbering) (members_of (drop l.member-index l.members)))

abbrev pub decreases-retold : goal.decreases-retold
decreases-retold l = 2 * weight (data_of l.value.now)

abbrev pub decreases-nodes_retold : goal.decreases-nodes_retold
decreases-nodes_retold l = 2 * nodes_weight (nodes_of l.values.now)

abbrev pub decreases-members_retold : goal.decreases-members_retold
decreases-members_retold l = 2 * members_weight (members_of l.members.now)
