use Rattle.std.proofs.Common.{◌≡◌, ◌≤◌, drop, length}
use Rattle.heat_value.specs.Meaning.{nodes_of, members_of}
use Rattle.heat_value.specs.Order.{nodes_cmp, members_cmp}
use Rattle.heat_value.proofs.value.+order.Given as goal

-- what is left decides, and the other is as long as what was compared
abbrev pub invariant-Items::order-loop-i : goal.invariant-Items::order-loop-i
invariant-Items::order-loop-i l =
    (l.i ≤ length l.other-inside.all.items) ×
    (nodes_cmp (nodes_of l.self-inside.all.items) (nodes_of l.other-inside.all.items) ≡ nodes_cmp (nodes_of (drop l.i l.self-inside.all.items)) (nodes_of (drop l.i l.other-inside.all.items)))

abbrev pub invariant-Props::order-loop-i : goal.invariant-Props::order-loop-i
invariant-Props::order-loop-i l =
    (l.i ≤ length l.other-inside.members.items) ×
    (members_cmp (members_of l.self-inside.members.items) (members_of l.other-inside.members.items) ≡ members_cmp (members_of (drop l.i l.self-inside.members.items)) (members_of (drop l.i l.other-inside.members.items)))
