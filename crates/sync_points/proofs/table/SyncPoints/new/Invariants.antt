use Rattle.std.proofs.Common.{◌≡◌, take}
use Rattle.sync_points.specs.Numbers.{fresh_points}
use Rattle.sync_points.proofs.table.SyncPoints.new.Given as goal

abbrev pub invariant-loop-place : goal.invariant-loop-place
invariant-loop-place l = l.points.items ≡ fresh_points l.stack 0 (take l.place l.preds)
