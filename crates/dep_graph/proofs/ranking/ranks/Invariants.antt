use Rattle.std.proofs.Common.{◌<◌, ◌+◌, length}
use Rattle.std.specs.Prelude.{All}
use Rattle.dep_graph.specs.Edges.{HasEdge}
use Rattle.dep_graph.specs.Ranks.{AreRanks}
use Rattle.dep_graph.proofs.ranking.ranks.Given as goal

-- what is left of the order is below the size, and all that have a rank are above those that are left
abbrev pub invariant-loop-node : goal.invariant-loop-node
invariant-loop-node l = record {
  within : All (λ node. node < length l.graph) l.order.items;
  ranks : AreRanks (HasEdge l.graph) (length l.graph) (length l.order.items + 1) l.ranks.items;
}

abbrev pub decreases-loop-node : goal.decreases-loop-node
decreases-loop-node l = length l.order.items
