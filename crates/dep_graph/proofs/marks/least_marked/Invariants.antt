use Rattle.std.proofs.Common.{ℕ, ◌<◌}
use Rattle.dep_graph.specs.Marks.{IsMarked}
use Rattle.dep_graph.proofs.marks.least_marked.Given as goal

abbrev pub invariant-loop-node : goal.invariant-loop-node
invariant-loop-node l = (k : ℕ) → k < l.node → IsMarked l.marks k → ⊥
