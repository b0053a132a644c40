use Rattle.std.proofs.Common.{inl, ap}
use Rattle.sync_points.specs.declared.ops.PointAnswer.TheVariants as gives
use Rattle.sync_points.proofs.run.gather.Goals as goal

pub returns-then-is_edge : goal.returns-then-is_edge
returns-then-is_edge g c =
    let e = c.is_edge.ensures.0 c.if-is_edge.true in
    inl (e, ap gives.Gathered (c.in_ok-gathered.ensures.told e.point e.its), c.in_ok-gathered.ensures.points e.point e.its)
