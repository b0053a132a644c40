use Rattle.std.proofs.Common.{◌≡◌, ◌++◌}
use Rattle.step_parts.proofs.lists.with_last.Given as goal

abbrev pub invariant-loop-item : goal.invariant-loop-item
invariant-loop-item g l = l.all ++ l.item-iterator.rest.items ≡ l.fn.first ++ l.fn.last
