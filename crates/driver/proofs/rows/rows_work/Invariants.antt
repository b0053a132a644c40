use Rattle.std.proofs.Common.{map, take, ◌*◌, ◌≤◌}
use Rattle.row_table.specs.Rows.{row_key}
use Rattle.driver.proofs.Tables.{RowsSeen}
use Rattle.driver.proofs.rows.rows_work.Given as goal

abbrev pub invariant-loop-row : goal.invariant-loop-row
invariant-loop-row l = RowsSeen l.s.state (map row_key (take l.row-index l.row-items)) l.sum
    × (l.sum ≤ 69 * l.row-index)
