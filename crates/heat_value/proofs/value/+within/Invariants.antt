use Rattle.std.proofs.Common.{◌≤◌, ◌↔◌, drop}
use Rattle.heat_value.specs.Data.{nodes_depth, members_depth}
use Rattle.heat_value.specs.Meaning.{nodes_of, members_of}
use Rattle.heat_value.proofs.value.+within.Given as goal

-- what is left decides
abbrev pub invariant-Items::are_within-loop-value : goal.invariant-Items::are_within-loop-value
invariant-Items::are_within-loop-value l =
    (nodes_depth (nodes_of l.value-items) ≤ l.limit) ↔ (nodes_depth (nodes_of (drop l.value-index l.value-items)) ≤ l.limit)

abbrev pub invariant-Props::are_within-loop-member : goal.invariant-Props::are_within-loop-member
invariant-Props::are_within-loop-member l =
    (members_depth (members_of l.member-items) ≤ l.limit) ↔ (members_depth (members_of (drop l.member-index l.member-items)) ≤ l.limit)
