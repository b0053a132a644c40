use Rattle.std.proofs.Common.{refl}
use Rattle.sync_points.specs.Points.{written}
use Rattle.sync_points.proofs.Places.{point_written}
use Rattle.sync_points.proofs.list_points.ListPointsPoints.set.Goals as goal

pub returns : goal.returns
returns c =
    point_written c.args.self.now c.self.inside.points.items c.self.view_is c.args.node c.place-place.result c.place-place.ensures.place c.place-place.ensures.within
    c.index_mut.result.now c.index_mut.ensures.value (written c.args.inputs c.args.done) _ c.write.ensures refl
