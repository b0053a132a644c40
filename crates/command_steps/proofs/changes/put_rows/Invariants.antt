use Rattle.std.proofs.Common.{◌≡◌, ◌++◌, map}
use Rattle.core_state.specs.declared.change.Change.TheVariants.{PutRow}
use Rattle.command_steps.proofs.changes.put_rows.Given as goal

abbrev pub invariant-loop-row : goal.invariant-loop-row
invariant-loop-row l = l.changes ++ map PutRow l.row-iterator.rest.items ≡ l.fn.changes ++ map PutRow l.fn.rows.items
