use Rattle.std.proofs.Common.{◌≡◌, ◌++◌}
use Rattle.core_state.proofs.ready.ready_all.Given as goal

abbrev pub invariant-loop-change : goal.invariant-loop-change
invariant-loop-change l = l.all ++ l.change-iterator.rest.items ≡ l.fn.changes
