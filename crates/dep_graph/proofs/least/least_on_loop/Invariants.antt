use Rattle.std.proofs.Common.{ℕ, ◌<◌}
use Rattle.dep_graph.specs.Edges.{HasEdge}
use Rattle.dep_graph.specs.Loops.{IsOnLoop}
use Rattle.dep_graph.proofs.least.least_on_loop.Given as goal

-- none of the first nodes is on a loop
abbrev pub invariant-loop-node : goal.invariant-loop-node
invariant-loop-node l = (k : ℕ) → k < l.node → IsOnLoop (HasEdge l.graph) k → ⊥
