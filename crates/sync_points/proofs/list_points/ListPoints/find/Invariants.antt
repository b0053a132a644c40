use Rattle.std.proofs.Common.{◌≡◌, drop, nat_eq}
use Rattle.std.specs.List.{position_from}
use Rattle.sync_points.specs.declared.sync_point.SyncPoint.{SyncPoint}
use Rattle.sync_points.proofs.list_points.ListPoints.find.Given as goal

abbrev pub invariant-loop-i : goal.invariant-loop-i
invariant-loop-i l = position_from (λ (x : SyncPoint). nat_eq x.point.node l.node) 0 l.self ≡ position_from (λ (x : SyncPoint). nat_eq x.point.node l.node) l.i (drop l.i l.self)
