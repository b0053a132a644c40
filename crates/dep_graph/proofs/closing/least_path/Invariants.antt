use Rattle.std.proofs.Common.{◌<◌, ◌-◌, length}
use Rattle.std.specs.Prelude.{All}
use Rattle.dep_graph.specs.Paths.{IsPath}
use Rattle.dep_graph.specs.Edges.{HasEdge}
use Rattle.dep_graph.specs.Marks.{IsMarked}
use Rattle.dep_graph.specs.Closings.{GoesTowards}
use Rattle.dep_graph.proofs.closing.least_path.Given as goal

abbrev pub invariant-loop-at : goal.invariant-loop-at
invariant-loop-at l = record {
  path : IsPath (GoesTowards (HasEdge l.graph) l.goal) l.from l.at l.path;
  marked : IsMarked l.reaching l.at;
  below : All (λ node. node < length l.graph) l.path;
}

abbrev pub decreases-loop-at : goal.decreases-loop-at
decreases-loop-at l = length l.graph - length l.path
