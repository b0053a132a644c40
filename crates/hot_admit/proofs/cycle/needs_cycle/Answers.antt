use Rattle.hot_admit.proofs.Cycles.{order_of_items, cycle_of_items, places_within}
use Rattle.hot_admit.proofs.cycle.needs_cycle.Goals as goal

pub returns-in-Order : goal.returns-in-Order
returns-in-Order c =
    order_of_items c.args.items.now c.in_ok-graph.graph c.in-Order.field-0 c.in_ok-graph.ensures
    (rw c.in-Order.is at c.in_ok-order.ensures)

pub path_of-requires : goal.path_of-requires
path_of-requires c =
    rw c.as_slice.ensures (places_within c.args.items.now c.in_ok-graph.graph c.in-Cycle.cycle c.in_ok-graph.ensures
    (rw c.in-Cycle.is at c.in_ok-order.ensures))

pub returns : goal.returns
returns c =
    cycle_of_items c.args.items.now c.in_ok-graph.graph c.in-Cycle.cycle c.in_ok-path_of-in-Cycle.field-0
    c.in_ok-graph.ensures
    (rw c.in-Cycle.is at c.in_ok-order.ensures) (rw c.as_slice.ensures at c.in_ok-path_of-in-Cycle.ensures)
