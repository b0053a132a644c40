use Rattle.std.proofs.Common.{◌≡◌, ◌++◌, map}
use Rattle.core_state.specs.declared.change.Change.TheVariants.{PutPoint}
use Rattle.check_steps.proofs.passing.puts.Given as goal

abbrev pub invariant-loop-point : goal.invariant-loop-point
invariant-loop-point l = l.changes ++ map PutPoint l.point-iterator.rest.items ≡ map PutPoint l.fn.points.items
