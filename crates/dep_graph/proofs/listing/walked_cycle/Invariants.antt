use Rattle.std.proofs.Common.{◌≡◌, ◌↔◌, ℕ, ◌<◌, ◌-◌, ◌++◌, ◌∷◌, [], eqb, length}
use Rattle.std.specs.Prelude.{All, Contains}
use Rattle.std.specs.List.{IsDistinct}
use Rattle.dep_graph.specs.Paths.{IsPath}
use Rattle.dep_graph.specs.Edges.{HasEdge}
use Rattle.dep_graph.specs.Marks.{IsMarked}
use Rattle.dep_graph.specs.Orders.{GoesBack}
use Rattle.dep_graph.proofs.listing.walked_cycle.Given as goal

abbrev pub invariant-loop-met : goal.invariant-loop-met
invariant-loop-met l = record {
  walk : IsPath (GoesBack (HasEdge l.graph)) l.least l.at (l.walk ++ l.at ∷ []);
  marked : IsMarked l.left l.at;
  below : All (λ node. node < length l.graph) l.walk;
  once : IsDistinct eqb l.walk;
  size : length l.met ≡ length l.graph;
  met : (node : ℕ) → IsMarked l.met node ↔ Contains l.walk node;
}

abbrev pub decreases-loop-met : goal.decreases-loop-met
decreases-loop-met l = length l.graph - length l.walk
