use Rattle.dep_graph.specs.Counts.{ListsReady}
use Rattle.dep_graph.proofs.CountLemmas.{IsCounting}
use Rattle.dep_graph.proofs.taking.count_down.Given as goal

abbrev pub invariant-loop-node : goal.invariant-loop-node
invariant-loop-node l = record {
  counting : IsCounting l.nodes l.node-index l.initial.counts.items l.counts.items;
  ready : ListsReady l.left l.counts.items l.ready;
}
