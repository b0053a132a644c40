use Rattle.std.proofs.Common.{take}
use Rattle.dep_graph.specs.Lists.{ListsAll}
use Rattle.traversal_graph.specs.Numbered.{IsNumbered}
use Rattle.traversal_graph.proofs.numbered.nodes_of.Given as goal

abbrev pub invariant-loop-number : goal.invariant-loop-number
invariant-loop-number l = ListsAll (IsNumbered l.first l.rows (take l.number-index l.numbers)) l.nodes
