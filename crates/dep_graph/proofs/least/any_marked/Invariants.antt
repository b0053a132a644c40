use Rattle.std.proofs.Common.{ℕ, ◌<◌, get_or}
use Rattle.dep_graph.specs.Marks.{IsMarked}
use Rattle.dep_graph.proofs.least.any_marked.Given as goal

-- none of the first has its mark
abbrev pub invariant-loop-node : goal.invariant-loop-node
invariant-loop-node l = (k : ℕ) → k < l.node-index → IsMarked l.marks (get_or l.nodes k 0) → ⊥
