use Rattle.keyed_table.proofs.SortedOrders.{sorted_none}
use Rattle.keyed_table.proofs.sorted_list.SortedList.new.Goals as goal

pub invariant_of-result : goal.invariant_of-result
invariant_of-result g c =
    rw c.new.ensures.items (sorted_none g.T.Ordered.order g.T.Ordered.key_of g.met.T.Ordered.total)
