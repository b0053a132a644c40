use Rattle.traversal_graph.proofs.OrderExists.{order_of_listing}
use Rattle.traversal_graph.proofs.laws.listings_are_orders.Goals as goal

pub returns : goal.returns
returns c = order_of_listing
