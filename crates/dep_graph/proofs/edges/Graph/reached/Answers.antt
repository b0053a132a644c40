-- One node is a list of one.
use Rattle.std.proofs.lemmas.Result.{IfOk-weaker}
use Rattle.dep_graph.proofs.SearchLemmas.{MarksAll-one}
use Rattle.dep_graph.proofs.edges.Graph.reached.Goals as goal

pub returns-clause-exact : goal.returns-clause-exact
returns-clause-exact c = IfOk-weaker _ _ _ (λ marks. MarksAll-one _ _ marks) c.reached_from.ensures.exact
