-- What items need of one another, as edges between their places.
use Rattle.std.specs.Prelude.{◌≡◌, ◌↔◌, ◌⊎◌, ◌<◌, ℕ, List, Some, Contains, length, slice_get}
use Rattle.dep_graph.specs.Edges.{Links, HasEdge}
use Rattle.heat_plan.specs.declared.item.Item.{Item}
use Rattle.traversal_graph.specs.Relations.{IsNeeded}

-- the item at the place has one of these names
pub record IsNamedAt (items : List Item) (names : List (List ℕ)) (place : ℕ) : Type 0 where
  pub item : Item
  pub found : slice_get items place ≡ Some item
  pub named : Contains names item.name

-- the edges that were, and those from the items of these names to one
pub record AddsNeeds (items : List Item) (names : List (List ℕ)) (after : ℕ) (old new : Links) : Type 0 where
  pub same : length new ≡ length old
  pub edges : (x y : ℕ) → HasEdge new x y ↔ (HasEdge old x y ⊎ (IsNamedAt items names x × (y ≡ after)))

-- an edge for each need of the first so many items
pub record HasNeeds (items : List Item) (count : ℕ) (graph : Links) : Type 0 where
  pub same : length graph ≡ length items
  pub edges : (x y : ℕ) → HasEdge graph x y ↔ ((y < count) × IsNeeded items x y)
