-- What each answer says of the graph that was asked.
use Rattle.std.specs.Prelude.{ℕ, length}
use Rattle.dep_graph.specs.Edges.{Links, HasEdge}
use Rattle.dep_graph.specs.Orders.{Orders, FindsCycle}
use Rattle.dep_graph.specs.Closings.{Opens, Closes}
use Rattle.dep_graph.specs.declared.closing.Added.{Added}
use Rattle.dep_graph.specs.declared.closing.Added.TheVariants as closing
use Rattle.dep_graph.specs.declared.listing.Order.{Order}
use Rattle.dep_graph.specs.declared.listing.Order.TheVariants as listing

-- an order, or the cycle in its way
abbrev pub IsOrderAnswer : Links → Order → Type 0
IsOrderAnswer graph (listing.Order order) = Orders (HasEdge graph) (length graph) order
IsOrderAnswer graph (listing.Cycle cycle) = FindsCycle (HasEdge graph) cycle

-- the edge, or the path that it would close
abbrev pub IsAddedAnswer : ℕ → ℕ → Links → Links → Added → Type 0
IsAddedAnswer before after old new closing.Added = Opens before after old new
IsAddedAnswer before after old new (closing.WouldClose path) = Closes before after old new path
