-- A graph without edges has no cycle.
use Rattle.dep_graph.proofs.EdgeLemmas.{IsBare-replicate}
use Rattle.dep_graph.proofs.ClosingLemmas.{acyclic_bare}
use Rattle.dep_graph.proofs.edges.Graph.new.Goals as goal

pub returns-clause-acyclic : goal.returns-clause-acyclic
returns-clause-acyclic c = acyclic_bare _ _ (IsBare-replicate _ _ c.in_ok-empty_lists.ensures)
