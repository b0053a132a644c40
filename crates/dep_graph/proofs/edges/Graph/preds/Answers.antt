-- A node's list is the one that the graph is seen by.
use Rattle.dep_graph.proofs.EdgeLemmas.{preds_read}
use Rattle.dep_graph.proofs.edges.Graph.preds.Goals as goal

pub returns-clause-exact : goal.returns-clause-exact
returns-clause-exact c =
    preds_read _ _ _ _ _ _ c.self.invariant c.self.view_is c.requires c.index.ensures c.as_slice.ensures

pub returns-clause-joins : goal.returns-clause-joins
returns-clause-joins c = rw (← c.self.view_is) c.self.invariant.joins
