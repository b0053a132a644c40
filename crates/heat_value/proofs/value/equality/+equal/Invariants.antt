use Rattle.std.proofs.Common.{◌≡◌, ◌↔◌, drop}
use Rattle.heat_value.specs.Meaning.{nodes_of, members_of}
use Rattle.heat_value.proofs.value.equality.+equal.Given as goal

abbrev pub invariant-ItemsEquals::equals-loop-i : goal.invariant-ItemsEquals::equals-loop-i
invariant-ItemsEquals::equals-loop-i l =
    (nodes_of l.self-inside.all.items ≡ nodes_of l.other-inside.all.items) ↔ (nodes_of (drop l.i l.self-inside.all.items) ≡ nodes_of (drop l.i l.other-inside.all.items))

abbrev pub invariant-PropsEquals::equals-loop-i : goal.invariant-PropsEquals::equals-loop-i
invariant-PropsEquals::equals-loop-i l =
    (members_of l.self-inside.members.items ≡ members_of l.other-inside.members.items) ↔ (members_of (drop l.i l.self-inside.members.items) ≡ members_of (drop l.i l.other-inside.members.items))
