-- Both lists rise, and the two with the edge in them are those of the graph with the edge.
use Rattle.std.proofs.Common.{◌<◌, ◌∙◌, length}
use Rattle.dep_graph.proofs.EdgeLemmas.{rising_read, edge_put, edge_refused}
use Rattle.dep_graph.proofs.edges.Graph.add_edge.Goals as goal

pub place_for-requires : goal.place_for-requires
place_for-requires c =
    let within : c.args.after < length c.self.inside.preds.items = rw c.self.view_is c.requires.after in
    rising_read _ _ _ c.self.invariant.rising_preds within c.index.ensures

pub invariant_of-self-in-Err : goal.invariant_of-self-in-Err
invariant_of-self-in-Err c =
    let within : c.args.after < length c.self.inside.preds.items = rw c.self.view_is c.requires.after in
    (edge_refused _ _ _ _ _ _ _ _ _ c.self.invariant within c.index.ensures c.in-Some.ensures.0
    c.in_ok-put_at.ensures.ok c.take_out.ensures c.in-Err.ensures.err).0

pub returns-in-Err-clause-err : goal.returns-in-Err-clause-err
returns-in-Err-clause-err c =
    let within : c.args.after < length c.self.inside.preds.items = rw c.self.view_is c.requires.after in
    (edge_refused _ _ _ _ _ _ _ _ _ c.self.invariant within c.index.ensures c.in-Some.ensures.0
    c.in_ok-put_at.ensures.ok c.take_out.ensures c.in-Err.ensures.err).1 ∙ c.self.view_is

pub invariant_of-self-in_default-put_node : goal.invariant_of-self-in_default-put_node
invariant_of-self-in_default-put_node c =
    (edge_put _ _ _ _ _ _ _ _ _ c.self.invariant c.self.view_is c.requires.before c.requires.after
    c.index.ensures c.in-Some.ensures.1 c.in_ok-put_at.ensures.ok c.in_default-put_node.ensures.ok).1

pub returns-clause-ok : goal.returns-clause-ok
returns-clause-ok c =
    (edge_put _ _ _ _ _ _ _ _ _ c.self.invariant c.self.view_is c.requires.before c.requires.after
    c.index.ensures c.in-Some.ensures.1 c.in_ok-put_at.ensures.ok c.in_default-put_node.ensures.ok).0
