use Rattle.dep_graph.proofs.edges.Graph.size.Goals as goal

pub returns-clause-joins : goal.returns-clause-joins
returns-clause-joins c = rw (← c.self.view_is) c.self.invariant.joins
