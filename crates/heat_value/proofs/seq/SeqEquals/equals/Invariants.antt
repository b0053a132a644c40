use Rattle.std.proofs.Common.{◌≡◌, ◌↔◌, drop}
use Rattle.heat_value.proofs.seq.SeqEquals.equals.Given as goal

-- what is left decides
abbrev pub invariant-loop-i : goal.invariant-loop-i
invariant-loop-i g l =
    (l.self-inside.items.items ≡ l.other-inside.items.items) ↔ (drop l.i l.self-inside.items.items ≡ drop l.i l.other-inside.items.items)
