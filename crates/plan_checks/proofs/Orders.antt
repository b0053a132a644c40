-- What the search for an order answers, said of items.
use Rattle.std.proofs.Common.{ℕ, List, All, Contains, length}
use Rattle.dep_graph.specs.Edges.{Links, HasEdge}
use Rattle.dep_graph.specs.Orders.{Orders, FindsCycle}
use Rattle.heat_plan.specs.Order.{Rising}
use Rattle.heat_plan.specs.Plans.{HasNoCycle, names_of}
use Rattle.heat_plan.specs.declared.item.Item.{Item}
use Rattle.traversal_graph.specs.Relations.{IsNeeded}
use Rattle.traversal_graph.proofs.OrderListings.{listing_from_order}
use Rattle.traversal_graph.proofs.OrderExists.{order_from_listing}
use Rattle.plan_checks.specs.Needs.{HasNeeds}
use Rattle.plan_checks.proofs.Alike.{orders_alike, acyclic_alike}
use Rattle.plan_checks.proofs.Edges.{needs_are_edges}

pub ordered : (is : List Item) (graph : Links) (order : List ℕ) → All (λ (i : Item). All (Contains (names_of is)) i.needs) is → HasNeeds is (length is) graph
    → Orders (HasEdge graph) (length graph) order → HasNoCycle is
ordered is graph order met has h =
    let same = needs_are_edges is graph has in
    let here = rw has.same at (orders_alike (HasEdge graph) (IsNeeded is) (λ x y. (same x y).0) (λ x y. (same x y).1) (length graph) order h) in
    listing_from_order is order met here

pub cyclic : (is : List Item) (graph : Links) (cycle : List ℕ) → Rising (names_of is) → HasNeeds is (length is) graph
    → FindsCycle (HasEdge graph) cycle → HasNoCycle is → ⊥
cyclic is graph cycle up has h none =
    let same = needs_are_edges is graph has in
    let order = order_from_listing is up none in
    h.closed (acyclic_alike (IsNeeded is) (HasEdge graph) (λ x y. (same x y).1) (λ x y. (same x y).0) order.1.acyclic)
