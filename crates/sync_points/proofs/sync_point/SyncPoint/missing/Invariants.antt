use Rattle.std.proofs.Common.{◌≡◌, take}
use Rattle.std.specs.Prelude.{not}
use Rattle.std.specs.List.{count_by}
use Rattle.sync_points.specs.Points.{has_from}
use Rattle.sync_points.proofs.sync_point.SyncPoint.missing.Given as goal

abbrev pub invariant-loop-from : goal.invariant-loop-from
invariant-loop-from l = l.missing ≡ count_by (λ from. not (has_from from l.self.point.inputs)) (take l.from-index l.self.preds)
