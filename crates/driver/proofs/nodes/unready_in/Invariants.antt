use Rattle.std.proofs.Common.{◌≤◌}
use Rattle.bound_laws.specs.Counts.{Counts}
use Rattle.driver.specs.Parts.{IsUnreadyIn}
use Rattle.driver.proofs.Ones.{Below}
use Rattle.driver.proofs.nodes.unready_in.Given as goal

abbrev pub invariant-loop-node : goal.invariant-loop-node
invariant-loop-node l = Counts (Below (IsUnreadyIn l.graph) l.node) l.count × (l.count ≤ l.node)
