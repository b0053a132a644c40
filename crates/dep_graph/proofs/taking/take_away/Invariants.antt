use Rattle.std.proofs.Common.{◌≡◌, ℕ, [], length, slice_index_or}
use Rattle.std.specs.Prelude.{count_by}
use Rattle.dep_graph.specs.Lists.{IsRising}
use Rattle.dep_graph.specs.Edges.{HasEdge}
use Rattle.dep_graph.specs.Marks.{Leaves}
use Rattle.dep_graph.specs.Orders.{TakesLeast}
use Rattle.dep_graph.specs.Counts.{CountsLeft, ListsReady}
use Rattle.dep_graph.proofs.taking.take_away.Given as goal

abbrev pub invariant-loop-node : goal.invariant-loop-node
invariant-loop-node l = record {
  taken : TakesLeast (HasEdge l.graph) (length l.graph) l.taken;
  leaves : Leaves l.taken l.left;
  same : length l.left ≡ length l.graph;
  counted : CountsLeft l.graph l.left l.counts.items;
  ready : ListsReady l.left l.counts.items l.ready;
  rising : (node : ℕ) → IsRising (slice_index_or l.graph node []);
}

abbrev pub decreases-loop-node : goal.decreases-loop-node
decreases-loop-node l = count_by (λ b. b) l.left
