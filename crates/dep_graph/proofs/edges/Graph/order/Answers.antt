-- Where no node is left the list is the order; else what is left can't be taken away.
use Rattle.dep_graph.proofs.OrderLemmas.{Orders-all, MarksAll-left}
use Rattle.dep_graph.proofs.edges.Graph.order.Goals as goal

pub returns-in-None : goal.returns-in-None
returns-in-None c =
    Orders-all _ _ _ c.size.ensures.joins c.in_ok-taken.ensures.size c.in_ok-taken.ensures.taken c.in_ok-taken.ensures.left
    (rw c.as_slice.ensures at c.in-None.ensures)

pub walked_cycle-requires-clause-left : goal.walked_cycle-requires-clause-left
walked_cycle-requires-clause-left c = rw c.as_slice-in-Some.ensures
    (MarksAll-left _ _ _ c.size.ensures.joins c.in_ok-taken.ensures.size c.in_ok-taken.ensures.taken
    c.in_ok-taken.ensures.left c.in_ok-taken.ensures.stuck)

pub walked_cycle-requires-clause-stuck : goal.walked_cycle-requires-clause-stuck
walked_cycle-requires-clause-stuck c = rw c.as_slice-in-Some.ensures c.in_ok-taken.ensures.stuck
