-- The path that was found closes; without one the edge closes no cycle.
use Rattle.dep_graph.proofs.ClosingLemmas.{Closes-path, acyclic_added}
use Rattle.dep_graph.proofs.edges.Graph.add_unless_cycle.Goals as goal

pub returns-in-Some-clause-ok : goal.returns-in-Some-clause-ok
returns-in-Some-clause-ok c = Closes-path _ _ _ _ (rw c.in-Some.is at c.in_ok-path.ensures)

pub returns-clause-acyclic : goal.returns-clause-acyclic
returns-clause-acyclic c =
    acyclic_added _ _ _ _ c.in_ok-add_edge.ensures.ok c.requires.acyclic (rw c.in_default.is at c.in_ok-path.ensures)
