use Rattle.std.proofs.Common.{◌<◌, length, refl, sym, ap, subst}
use Rattle.sync_points.specs.Points.{point_key, finished}
use Rattle.sync_points.proofs.Places.{point_written, written_numbered}
use Rattle.sync_points.proofs.table.SyncPointsPoints.finish.Goals as goal

pub invariant_of-self : goal.invariant_of-self
invariant_of-self c =
    written_numbered c.self.inside.points.items c.place-place.result c.index_mut.result.now c.finish.new.self c.self.invariant
    (subst (λ ps. c.place-place.result < length ps) (sym c.self.view_is) c.place-place.ensures.within) c.index_mut.ensures.value (ap point_key c.finish.ensures)

pub returns : goal.returns
returns c =
    point_written c.args.self.now c.self.inside.points.items c.self.view_is c.args.node c.place-place.result c.place-place.ensures.place c.place-place.ensures.within
    c.index_mut.result.now c.index_mut.ensures.value finished _ c.finish.ensures refl
