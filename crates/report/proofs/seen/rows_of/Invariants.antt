use Rattle.std.proofs.Common.{◌≡◌, [], drop}
use Rattle.report.specs.Seen.{rows_seen}
use Rattle.report.proofs.seen.rows_of.Given as goal

abbrev pub invariant-loop-row : goal.invariant-loop-row
invariant-loop-row l = rows_seen l.list.items (drop l.row-index l.rows) ≡ rows_seen [] l.rows
