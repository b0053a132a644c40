-- The predecessors are all in the list, which rises.
use Rattle.dep_graph.proofs.MarkLemmas.{neighbours_within, least_of_kind}
use Rattle.dep_graph.proofs.listing.least_left_pred.Goals as goal

pub first_marked-requires-clause-within : goal.first_marked-requires-clause-within
first_marked-requires-clause-within c =
    neighbours_within _ _ _ c.preds.ensures.exact (λ x edge. rw c.requires.size (c.preds.ensures.joins x _ edge).0)

pub returns : goal.returns
returns c = least_of_kind _ _ _ _ c.preds.ensures.exact c.first_marked.ensures
