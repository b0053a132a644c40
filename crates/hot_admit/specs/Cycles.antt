-- The cycle in what items need: of the items by their places.
use Rattle.std.specs.Prelude.{◌≡◌, ◌↔◌, ◌⊎◌, ◌<◌, ℕ, List, [], ◌∷◌, Some, Contains, length, slice_get}
use Rattle.std.specs.Option.{option_map_or}
use Rattle.dep_graph.specs.Edges.{Links, HasEdge}
use Rattle.dep_graph.specs.Orders.{Orders, FindsCycle}
use Rattle.heat_plan.specs.declared.item.Item.{Item}
use Rattle.heat_value.specs.declared.path.Step.{Step}
use Rattle.heat_value.specs.declared.path.Step.TheVariants.{Key}
use Rattle.traversal_graph.specs.Relations.{IsNeeded}

-- the item at the place has one of these names
pub record IsNamedAt (items : List Item) (names : List (List ℕ)) (place : ℕ) : Type 0 where
  pub item : Item
  pub found : slice_get items place ≡ Some item
  pub named : Contains names item.name

-- the edges that were, and those from the items of these names to one
pub record AddsNeeds (items : List Item) (names : List (List ℕ)) (after : ℕ) (old new : Links) : Type 0 where
  pub same : length new ≡ length old
  pub edges : (x y : ℕ) → HasEdge new x y ↔ (HasEdge old x y ⊎ (IsNamedAt items names x × (y ≡ after)))

-- an edge for each need of the first so many items
pub record HasNeeds (items : List Item) (count : ℕ) (graph : Links) : Type 0 where
  pub same : length graph ≡ length items
  pub edges : (x y : ℕ) → HasEdge graph x y ↔ ((y < count) × IsNeeded items x y)

-- the name of the item at a place
abbrev pub name_at : List Item → ℕ → List ℕ
name_at items place = option_map_or (λ (i : Item). i.name) (slice_get items place) []

-- the names of the items at these places, as a path
abbrev pub names_at : List Item → List ℕ → List Step
names_at items [] = []
names_at items (place ∷ places) = Key (name_at items place) ∷ names_at items places

-- the items can be ordered so that each comes behind what it needs
abbrev pub HasOrder : List Item → Type 0
HasOrder items = (order : List ℕ) × Orders (IsNeeded items) (length items) order

-- A04: the names on the cycle that the walk back through needs meets: from the least item that is left, where items all
-- of whose needs were taken away are taken away, again and again to its least need that is left
abbrev pub IsCycleOf : List Item → List Step → Type 0
IsCycleOf items path = (cycle : List ℕ) × FindsCycle (IsNeeded items) cycle × (path ≡ names_at items cycle)
