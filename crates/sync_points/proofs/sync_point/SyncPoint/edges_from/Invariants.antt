use Rattle.std.proofs.Common.{◌≡◌, take, nat_eq}
use Rattle.std.specs.List.{count_by}
use Rattle.sync_points.proofs.sync_point.SyncPoint.edges_from.Given as goal

abbrev pub invariant-loop-node : goal.invariant-loop-node
invariant-loop-node l = l.edges ≡ count_by (λ n. nat_eq n l.from) (take l.node-index l.self.preds)
