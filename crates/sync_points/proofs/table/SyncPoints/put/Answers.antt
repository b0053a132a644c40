use Rattle.std.proofs.Common.{◌∙◌, ap, arith}
use Rattle.sync_points.specs.Points.{point_key}
use Rattle.sync_points.proofs.Alone.{alone_put}
use Rattle.sync_points.proofs.Places.{set_numbered}
use Rattle.sync_points.proofs.table.SyncPoints.put.Goals as goal

pub invariant_of-self : goal.invariant_of-self
invariant_of-self c =
    set_numbered 0 c.args.point.node c.replace.new.self c.self.inside.points.items c.self.invariant (ap point_key c.replace.ensures ∙ omega arith)

pub returns-then-place-len : goal.returns-then-place-len
returns-then-place-len c =
    alone_put c.args.self.now c.self.inside.points.items c.self.view_is c.args.point.node c.index_mut.result.now c.replace.new.self c.args.point c.replace.ensures
