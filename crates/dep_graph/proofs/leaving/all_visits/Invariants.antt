use Rattle.dep_graph.specs.Leaving.{AreWithin}
use Rattle.dep_graph.proofs.leaving.all_visits.Given as goal

-- the visits so far are to nodes below the size
abbrev pub invariant-loop-node : goal.invariant-loop-node
invariant-loop-node l = AreWithin l.size l.visits.items
