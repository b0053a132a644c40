use Rattle.std.proofs.Common.{[]}
use Rattle.std.proofs.lemmas.Result.{IfOk-weaker}
use Rattle.traversal_graph.proofs.NumberLemmas.{numbered_none, numbered_within}
use Rattle.traversal_graph.proofs.NumberedEdges.{replaced_edges}
use Rattle.traversal_graph.proofs.candidates.replaced_by.Goals as goal

pub returns-in-Some-clause-exact : goal.returns-in-Some-clause-exact
returns-in-Some-clause-exact c =
    IfOk-weaker c.nodes_of.result _ _
    (λ nodes lists. replaced_edges c.args.first c.args.rows.now c.args.row.now nodes (rw c.in-Some.is lists)) c.nodes_of.ensures

pub returns-in-Some-clause-within : goal.returns-in-Some-clause-within
returns-in-Some-clause-within c = IfOk-weaker c.nodes_of.result _ _ (λ nodes lists. numbered_within _ _ _ nodes lists) c.nodes_of.ensures

pub returns-in-None-clause-exact : goal.returns-in-None-clause-exact
returns-in-None-clause-exact c = rw c.new.ensures
    (replaced_edges c.args.first c.args.rows.now c.args.row.now [] (rw c.in-None.is (numbered_none c.args.first c.args.rows.now)))
