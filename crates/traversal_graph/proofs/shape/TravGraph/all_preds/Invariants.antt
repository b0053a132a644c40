use Rattle.std.proofs.Common.{take, length}
use Rattle.traversal_graph.specs.Neighbours.{AreRising, ListsPreds}
use Rattle.traversal_graph.proofs.shape.TravGraph.all_preds.Given as goal

-- the edges so far are told
abbrev pub invariant-loop-before : goal.invariant-loop-before
invariant-loop-before l = record {
  rising : AreRising l.all;
  lists : ListsPreds (take l.before-index l.before-items) (length l.self.nodes) l.all;
}
