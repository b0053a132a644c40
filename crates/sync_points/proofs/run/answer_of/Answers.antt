use Rattle.std.proofs.Common.{sym, subst}
use Rattle.sync_points.specs.Runs.{Does, Gathers}
use Rattle.sync_points.proofs.run.answer_of.Goals as goal

pub returns-in_ok-gather-in-Gather : goal.returns-in_ok-gather-in-Gather
returns-in_ok-gather-in-Gather g c =
    subst (λ o. Does o (g.R.Points.content c.args.points.now) c.in_ok-gather-in-Gather.field-0 (g.R.Points.content c.gather.new.points)) (sym c.in-Gather.is)
    (subst (λ x. Gathers c.in-Gather.node c.in-Gather.from x (g.R.Points.content c.args.points.now) c.in_ok-gather-in-Gather.field-0 (g.R.Points.content c.gather.new.points))
    c.in_ok-copy-in-Gather.ensures c.in_ok-gather-in-Gather.ensures)
