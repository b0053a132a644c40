use Rattle.std.proofs.Common.{◌≡◌, ◌↔◌, drop}
use Rattle.sync_points.specs.Points.{own_points}
use Rattle.sync_points.proofs.table.SyncPoints.has_same_points.Given as goal

-- what is left decides
abbrev pub invariant-loop-i : goal.invariant-loop-i
invariant-loop-i l =
    (own_points l.self-inside.points.items ≡ own_points l.other-inside.points.items)
    ↔ (own_points (drop l.i l.self-inside.points.items) ≡ own_points (drop l.i l.other-inside.points.items))
