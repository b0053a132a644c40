use Rattle.dep_graph.proofs.CountLemmas.{ListsNone}
use Rattle.dep_graph.proofs.taking.without_preds.Given as goal

abbrev pub invariant-loop-node : goal.invariant-loop-node
invariant-loop-node l = ListsNone l.counts l.node l.ready
