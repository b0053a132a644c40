use Rattle.std.proofs.Common.{◌≡◌, length, take}
use Rattle.dep_graph.specs.Edges.{HasEdge}
use Rattle.dep_graph.specs.Marks.{MarksAll}
use Rattle.dep_graph.specs.Paths.{HasPath}
use Rattle.traversal_graph.specs.Candidates.{edges_in}
use Rattle.traversal_graph.specs.Drafts.{Draws}
use Rattle.traversal_graph.proofs.drawing.draw_each_in.Given as goal

-- the nodes so far were considered, and the same nodes are reached from the one
abbrev pub invariant-loop-before : goal.invariant-loop-before
invariant-loop-before l = record {
  draws : Draws (edges_in (take l.before-index l.befores) l.after) l.initial.draft l.draft;
  size : length l.reached ≡ length l.draft.graph;
  reached : MarksAll (HasPath (HasEdge l.draft.graph) l.after) l.reached;
}
