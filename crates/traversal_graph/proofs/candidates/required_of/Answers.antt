use Rattle.std.proofs.lemmas.Result.{IfOk-weaker}
use Rattle.traversal_graph.proofs.NumberLemmas.{numbered_within}
use Rattle.traversal_graph.proofs.NumberedEdges.{required_edges}
use Rattle.traversal_graph.proofs.candidates.required_of.Goals as goal

pub returns-clause-exact : goal.returns-clause-exact
returns-clause-exact c =
    IfOk-weaker c.nodes_of.result _ _
    (λ nodes lists. required_edges c.args.first c.args.rows.now c.args.row.now nodes (rw c.as_slice.ensures at lists)) c.nodes_of.ensures

pub returns-clause-within : goal.returns-clause-within
returns-clause-within c = IfOk-weaker c.nodes_of.result _ _ (λ nodes lists. numbered_within _ _ _ nodes lists) c.nodes_of.ensures
