use Rattle.std.proofs.Common.{◌≤◌, ℕ}
use Rattle.bound_laws.specs.Counts.{Counts}
use Rattle.bound_laws.specs.Rolls.{RollFar}
use Rattle.driver.proofs.Ones.{Below}
use Rattle.driver.proofs.nodes.far_in.Given as goal

abbrev pub invariant-loop-node : goal.invariant-loop-node
invariant-loop-node l = Counts (Below (λ (i : ℕ). RollFar l.s.state (l.stack.name, i)) l.node-index) l.count
    × (l.count ≤ l.node-index)
