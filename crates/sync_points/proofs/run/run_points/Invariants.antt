use Rattle.std.proofs.Common.{take}
use Rattle.sync_points.specs.Runs.{Runs}
use Rattle.sync_points.proofs.run.run_points.Given as goal

abbrev pub invariant-loop-op : goal.invariant-loop-op
invariant-loop-op g l = Runs (take l.op-index l.ops) (g.R.Points.content l.fn.points) l.answers (g.R.Points.content l.points)
