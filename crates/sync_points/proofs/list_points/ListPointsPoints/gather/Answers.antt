use Rattle.std.proofs.Common.{refl}
use Rattle.sync_points.specs.Points.{with_input}
use Rattle.sync_points.proofs.Places.{point_same, point_written}
use Rattle.sync_points.proofs.Gathers.{told_of}
use Rattle.sync_points.proofs.list_points.ListPointsPoints.gather.Goals as goal

pub returns-clause-points : goal.returns-clause-points
returns-clause-points c =
    point_written c.args.self.now c.self.inside.points.items c.self.view_is c.args.node c.place-place.result c.place-place.ensures.place c.place-place.ensures.within
    c.index_mut-point.result.now c.index_mut-point.ensures.value (with_input c.args.from c.args.input) _ c.in_ok-new.ensures.point refl

pub returns-clause-told : goal.returns-clause-told
returns-clause-told c p is = told_of c.args.from c.args.input c.index_mut-point.result.now c.gather.new.self p c.in_ok-new.new c.is_full-full.result
    (point_same c.args.self.now c.self.inside.points.items c.self.view_is c.args.node c.place-place.result c.place-place.ensures.place c.place-place.ensures.within
    c.index_mut-point.result.now c.index_mut-point.ensures.value p is)
    c.in_ok-new.ensures.point c.in_ok-new.ensures.told c.is_full-full.ensures
