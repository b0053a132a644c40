use Rattle.std.proofs.Common.{◌↔◌, ◌≡◌, ℕ, length, take}
use Rattle.dep_graph.specs.Edges.{HasEdge}
use Rattle.traversal_graph.specs.Builds.{Joins}
use Rattle.traversal_graph.proofs.closing.graph_of.Given as goal

-- the edges so far
abbrev pub invariant-loop-before : goal.invariant-loop-before
invariant-loop-before l = record {
  size : length l.graph ≡ l.size;
  edges : (before after : ℕ) → HasEdge l.graph before after ↔ Joins (take l.before-index l.edges) before after;
}
