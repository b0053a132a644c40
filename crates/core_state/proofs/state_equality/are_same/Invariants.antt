use Rattle.std.proofs.Common.{◌≡◌, ◌↔◌, drop}
use Rattle.core_state.proofs.state_equality.are_same.Given as goal

-- what is left decides
abbrev pub invariant-loop-i : goal.invariant-loop-i
invariant-loop-i g l = (l.items ≡ l.others) ↔ (drop l.i l.items ≡ drop l.i l.others)
