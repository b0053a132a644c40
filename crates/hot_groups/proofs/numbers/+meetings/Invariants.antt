use Rattle.std.proofs.Common.{◌≡◌, ◌*◌, ◌+◌, drop}
use Rattle.heat_value.specs.Meaning.{data_of, nodes_of, members_of, weight, nodes_weight, members_weight}
use Rattle.hot_groups.specs.Numbers.{meeting_among, meeting_under}
use Rattle.hot_strings.specs.Answers.{with_values}
use Rattle.hot_groups.proofs.numbers.+meetings.Given as goal

-- what is left decides
abbrev pub invariant-meeting_among-loop-i : goal.invariant-meeting_among-loop-i
invariant-meeting_among-loop-i l =
    meeting_among (with_values l.numbering) 0 (nodes_of l.values)
    ≡ meeting_among (with_values l.numbering) l.i (nodes_of (drop l.i l.values))

abbrev pub invariant-meeting_under-loop-member : goal.invariant-meeting_under-loop-member
invariant-meeting_under-loop-member l =
    meeting_under (with_values l.numbering) (members_of l.members)
    ≡ meeting_under (with_values l.numbering) (members_of (drop l.member-index l.members))

abbrev pub decreases-meeting : goal.decreases-meeting
decreases-meeting l = 2 * weight (data_of l.value.now)

abbrev pub decreases-meeting_among : goal.decreases-meeting_among
decreases-meeting_among l = 2 * nodes_weight (nodes_of l.values.now)

abbrev pub decreases-object_meeting : goal.decreases-object_meeting
decreases-object_meeting l = 2 * members_weight l.fields.now + 1

abbrev pub decreases-meeting_under : goal.decreases-meeting_under
decreases-meeting_under l = 2 * members_weight (members_of l.members.now)
