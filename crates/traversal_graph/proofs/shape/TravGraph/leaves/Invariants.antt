use Rattle.std.proofs.Common.{◌<◌, ℕ}
use Rattle.dep_graph.specs.Lists.{ListsAll}
use Rattle.traversal_graph.specs.Builds.{Joins}
use Rattle.traversal_graph.proofs.shape.TravGraph.leaves.Given as goal

abbrev pub invariant-loop-node : goal.invariant-loop-node
invariant-loop-node l =
    ListsAll (λ node. (node < l.node) × ((before : ℕ) → ¬ Joins l.self.edges before node)) l.leaves
