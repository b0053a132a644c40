use Rattle.std.proofs.Common.{take}
use Rattle.dep_graph.specs.Edges.{HasEdge}
use Rattle.dep_graph.specs.Marks.{MarksAmong}
use Rattle.dep_graph.specs.Paths.{HasPath}
use Rattle.traversal_graph.specs.Candidates.{edges_out}
use Rattle.traversal_graph.specs.Drafts.{Draws}
use Rattle.traversal_graph.proofs.drawing.draw_each_out.Given as goal

-- the nodes so far were considered, and the same nodes reach the one
abbrev pub invariant-loop-after : goal.invariant-loop-after
invariant-loop-after l = record {
  draws : Draws (edges_out l.before (take l.after-index l.afters)) l.initial.draft l.draft;
  reaching : MarksAmong l.afters (λ node. HasPath (HasEdge l.draft.graph) node l.before) l.reaching;
}
