use Rattle.std.proofs.Common.{take}
use Rattle.dep_graph.specs.Marks.{MarksNew}
use Rattle.dep_graph.proofs.searching.mark_new.Given as goal

abbrev pub invariant-loop-node : goal.invariant-loop-node
invariant-loop-node l = MarksNew (take l.node-index l.nodes) l.initial.marks l.initial.pending.items l.marks l.pending.items
