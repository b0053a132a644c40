use Rattle.std.proofs.Common.{◌≡◌, ◌≤◌, take}
use Rattle.provider.specs.Cloud.{count_of}
use Rattle.sim_cloud.specs.Holding.{whats}
use Rattle.sim_cloud.proofs.holdings.Holdings.count_of.Given as goal

abbrev pub invariant-loop-one : goal.invariant-loop-one
invariant-loop-one l = (l.count ≡ count_of l.kind (whats (take l.one-index l.one-items))) × (l.count ≤ l.one-index)
