use Rattle.std.proofs.Common.{◌≡◌, ◌++◌, map, take}
use Rattle.core_state.specs.declared.change.Change.TheVariants.{PutRow}
use Rattle.state_images.proofs.writing.add_rows.Given as goal

abbrev pub invariant-loop-row : goal.invariant-loop-row
invariant-loop-row l = l.changes ≡ l.fn.changes ++ map PutRow (take l.row-index l.rows)
