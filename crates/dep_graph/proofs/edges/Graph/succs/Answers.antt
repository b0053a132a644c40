-- A node's successors tell the edges that the graph is seen by.
use Rattle.dep_graph.proofs.EdgeLemmas.{succs_read}
use Rattle.dep_graph.proofs.edges.Graph.succs.Goals as goal

pub returns-clause-exact : goal.returns-clause-exact
returns-clause-exact c =
    succs_read _ _ _ _ _ _ c.self.invariant c.self.view_is c.requires c.index.ensures c.as_slice.ensures

pub returns-clause-joins : goal.returns-clause-joins
returns-clause-joins c = rw (← c.self.view_is) c.self.invariant.joins
