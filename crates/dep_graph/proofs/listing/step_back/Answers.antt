-- Since each node left is held, there is one.
use Rattle.dep_graph.proofs.MarkLemmas.{IsMarked-within}
use Rattle.dep_graph.proofs.listing.step_back.Goals as goal

pub least_left_pred-requires-clause-node : goal.least_left_pred-requires-clause-node
least_left_pred-requires-clause-node c = rw (← c.requires.size) (IsMarked-within _ _ c.requires.marked)

pub unreachable-requires : goal.unreachable-requires
unreachable-requires c =
    let h = c.requires.stuck c.args.node c.requires.marked in c.in-None.ensures h.0 h.1 h.2
