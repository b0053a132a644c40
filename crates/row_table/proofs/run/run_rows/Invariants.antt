use Rattle.std.proofs.Common.{take}
use Rattle.row_table.specs.Runs.{Runs}
use Rattle.row_table.proofs.run.run_rows.Given as goal

abbrev pub invariant-loop-op : goal.invariant-loop-op
invariant-loop-op g l = Runs (take l.op-index l.ops) (g.R.Rows.content l.fn.rows).items l.answers (g.R.Rows.content l.rows).items
