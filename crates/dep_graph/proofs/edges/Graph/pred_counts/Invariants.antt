use Rattle.std.proofs.Common.{◌≡◌, length, map, take}
use Rattle.dep_graph.proofs.edges.Graph.pred_counts.Given as goal

abbrev pub invariant-loop-preds : goal.invariant-loop-preds
invariant-loop-preds l = l.counts.items ≡ map length (take l.preds-index l.preds-items)
