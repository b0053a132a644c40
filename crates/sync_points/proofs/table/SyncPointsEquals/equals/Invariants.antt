use Rattle.std.proofs.Common.{◌≡◌, ◌↔◌, drop}
use Rattle.sync_points.proofs.table.SyncPointsEquals.equals.Given as goal

-- what is left decides
abbrev pub invariant-loop-i : goal.invariant-loop-i
invariant-loop-i l =
    (l.self-inside.points.items ≡ l.other-inside.points.items) ↔ (drop l.i l.self-inside.points.items ≡ drop l.i l.other-inside.points.items)
