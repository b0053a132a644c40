use Rattle.std.proofs.Common.{◌∙◌, sym}
use Rattle.sync_points.proofs.Places.{none_there}
use Rattle.sync_points.proofs.table.SyncPoints.place.Goals as goal

pub unreachable-requires : goal.unreachable-requires
unreachable-requires c = none_there c.args.self.now c.args.node (sym c.find.ensures.place ∙ c.in-None.is) c.requires
