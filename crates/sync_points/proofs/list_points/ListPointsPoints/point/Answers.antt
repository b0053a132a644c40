use Rattle.std.proofs.Common.{◌∙◌, nat_eq, sym}
use Rattle.keyed_table.proofs.Tables.{at-nowhere}
use Rattle.sync_points.specs.Points.{point_key}
use Rattle.sync_points.proofs.Places.{point_read}
use Rattle.sync_points.proofs.list_points.ListPointsPoints.point.Goals as goal

pub returns-in-Some : goal.returns-in-Some
returns-in-Some c =
    sym (point_read c.args.self.now c.self.inside.points.items c.self.view_is c.args.node c.in-Some.place (sym c.find.ensures.place ∙ c.in-Some.is) c.in-Some.ensures.within
    c.index.result.now c.index.ensures)

pub returns-in-None : goal.returns-in-None
returns-in-None c = sym (at-nowhere nat_eq point_key c.args.node c.args.self.now (sym c.find.ensures.place ∙ c.in-None.is))
