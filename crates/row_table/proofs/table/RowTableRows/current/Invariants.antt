use Rattle.row_table.proofs.Names.{NoneFrom}
use Rattle.row_table.proofs.table.RowTableRows.current.Given as goal

abbrev pub invariant-loop-i : goal.invariant-loop-i
invariant-loop-i l = NoneFrom l.rows l.entries l.i l.end
