use Rattle.traversal_graph.proofs.OrderExists.{order_from_listing}
use Rattle.traversal_graph.proofs.laws.listed_items_have_an_order.Goals as goal

pub returns : goal.returns
returns c = order_from_listing
