use Rattle.std.proofs.Common.{◌+◌, length}
use Rattle.dep_graph.specs.Edges.{HasEdge}
use Rattle.dep_graph.specs.Paths.{Against}
use Rattle.dep_graph.specs.Marks.{unmarked_count}
use Rattle.dep_graph.proofs.SearchLemmas.{IsSearch}
use Rattle.dep_graph.proofs.edges.Graph.reached_from.Given as goal

abbrev pub invariant-loop-node : goal.invariant-loop-node
invariant-loop-node l = IsSearch (Against (HasEdge l.self)) (length l.self) l.nodes l.marks l.pending.items

abbrev pub decreases-loop-node : goal.decreases-loop-node
decreases-loop-node l = unmarked_count l.marks + length l.pending.items
