use Rattle.traversal_graph.proofs.OrderListings.{listing, listing_from_order}
use Rattle.traversal_graph.proofs.laws.orders_are_listings.Goals as goal

pub returns-clause-listing : goal.returns-clause-listing
returns-clause-listing c = listing

pub returns-clause-acyclic : goal.returns-clause-acyclic
returns-clause-acyclic c = listing_from_order
