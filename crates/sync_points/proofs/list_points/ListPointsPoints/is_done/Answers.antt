use Rattle.std.proofs.Common.{option_map, ap}
use Rattle.sync_points.specs.declared.sync_point.SyncPoint.{SyncPoint}
use Rattle.sync_points.proofs.Places.{point_read}
use Rattle.sync_points.proofs.list_points.ListPointsPoints.is_done.Goals as goal

pub returns : goal.returns
returns c =
    ap (option_map (λ (p : SyncPoint). p.point.done)) (point_read c.args.self.now c.self.inside.points.items c.self.view_is c.args.node c.place-place.result c.place-place.ensures.place c.place-place.ensures.within
    c.index.result.now c.index.ensures)
