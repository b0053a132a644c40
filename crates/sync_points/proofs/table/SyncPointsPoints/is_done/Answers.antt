use Rattle.std.proofs.Common.{◌∙◌, Some, option_map, sym, ap}
use Rattle.sync_points.specs.declared.sync_point.SyncPoint.{SyncPoint}
use Rattle.sync_points.proofs.Places.{point_read}
use Rattle.sync_points.proofs.table.SyncPointsPoints.is_done.Goals as goal

pub returns : goal.returns
returns c =
    ap (option_map (λ (p : SyncPoint). p.point.done)) (point_read c.args.self.now c.self.inside.points.items c.self.view_is c.args.node c.place-place.result c.place-place.ensures.place c.place-place.ensures.within
    c.index.result.now c.index.ensures) ∙ ap (λ (p : SyncPoint). Some p.point.done) (sym c.point.ensures)
