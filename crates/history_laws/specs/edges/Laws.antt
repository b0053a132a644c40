-- What the edges of a plan's graph are: those of needs, those from names to rows, and others between rows.
use Rattle.std.specs.Prelude.{Contains, List, Some, [], length, slice_get, ℕ, ◌+◌, ◌<◌, ◌≡◌}
use Rattle.heat_plan.specs.Order.{Rising}
use Rattle.heat_plan.specs.Plans.{HasNoCycle, names_of}
use Rattle.heat_plan.specs.declared.item.Item.{Item}
use Rattle.dep_graph.specs.Paths.{IsAcyclic}
use Rattle.traversal_graph.specs.Builds.{Joins, Keeps}
use Rattle.traversal_graph.specs.Candidates.{candidates}
use Rattle.traversal_graph.specs.declared.brief.RowBrief.{RowBrief}

-- the places of items stand before those of rows
pub record FitsPlan (items : List Item) (rows : List RowBrief) (edges : List (ℕ × ℕ)) : Type 0 where
  pub acyclic : IsAcyclic (Joins edges)
  pub needed : (b a : ℕ) (need item : Item) → slice_get items b ≡ Some need → slice_get items a ≡ Some item
      → Contains item.needs need.name → Joins edges b a
  pub needs : (b a : ℕ) (item : Item) → slice_get items a ≡ Some item → Joins edges b a
      → (need : Item) × (slice_get items b ≡ Some need) × Contains item.needs need.name
  pub behind : (i r : ℕ) (item : Item) (row : RowBrief) → slice_get items i ≡ Some item → slice_get rows r ≡ Some row
      → row.name ≡ item.name → Joins edges i (length items + r)
  pub ends : (b a : ℕ) → Joins edges b a → (b < length items + length rows) × (a < length items + length rows)

-- what is kept of the candidates fits a plan whose needs have no cycle
abbrev pub EdgesFitPlan : Type 0
EdgesFitPlan = (items : List Item) (rows : List RowBrief) (edges : List (ℕ × ℕ)) → Rising (names_of items)
    → HasNoCycle items
    → Keeps [] (candidates items rows) edges → FitsPlan items rows edges
