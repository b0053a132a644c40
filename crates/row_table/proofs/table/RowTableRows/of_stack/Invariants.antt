use Rattle.row_table.proofs.Stacks.{NosSoFar}
use Rattle.row_table.proofs.table.RowTableRows.of_stack.Given as goal

abbrev pub invariant-loop-i : goal.invariant-loop-i
invariant-loop-i l = NosSoFar l.rows l.entries l.start l.end l.i l.nos
