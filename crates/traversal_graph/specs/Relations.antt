-- What items and rows have to do with one another, by their places.
use Rattle.std.specs.Prelude.{◌≡◌, ◌↔◌, ◌⊎◌, ◌<◌, ◌+◌, ℕ, List, Some, AllPairs, Contains, slice_get}
use Rattle.heat_plan.specs.declared.item.Item.{Item}
use Rattle.traversal_graph.specs.declared.brief.RowBrief.{RowBrief}

-- the item at the one place is needed by the item at the other
pub record IsNeeded (items : List Item) (before after : ℕ) : Type 0 where
  pub needed : Item
  pub needing : Item
  pub needed_at : slice_get items before ≡ Some needed
  pub needing_at : slice_get items after ≡ Some needing
  pub needs : Contains needing.needs needed.name

-- the row has the item's name
pub record IsRowOf (items : List Item) (rows : List RowBrief) (place r : ℕ) : Type 0 where
  pub item : Item
  pub row : RowBrief
  pub item_at : slice_get items place ≡ Some item
  pub row_at : slice_get rows r ≡ Some row
  pub named : row.name ≡ item.name

-- the row at the one place requires the row at the other
pub record IsRequired (rows : List RowBrief) (r q : ℕ) : Type 0 where
  pub row : RowBrief
  pub other : RowBrief
  pub row_at : slice_get rows r ≡ Some row
  pub other_at : slice_get rows q ≡ Some other
  pub requires : Contains row.requires_ other.no

-- the row at the one place replaces the row at the other
pub record IsReplaced (rows : List RowBrief) (r q : ℕ) : Type 0 where
  pub row : RowBrief
  pub other : RowBrief
  pub row_at : slice_get rows r ≡ Some row
  pub other_at : slice_get rows q ≡ Some other
  pub replaces : row.replaces ≡ Some other.no

-- so said of two rows, told of their nodes behind so many update nodes
pub record IsBehind (first : ℕ) (Is : ℕ → ℕ → Type 0) (before after : ℕ) : Type 0 where
  pub r : ℕ
  pub q : ℕ
  pub before_is : before ≡ first + r
  pub after_is : after ≡ first + q
  pub rows : Is r q

-- all pairs of a kind, each once, by their first and then by their second
pub record ListsPairs (Is : ℕ → ℕ → Type 0) (pairs : List (ℕ × ℕ)) : Type 0 where
  pub rising : AllPairs (λ x y. (x.0 < y.0) ⊎ ((x.0 ≡ y.0) × (x.1 < y.1))) pairs
  pub each : (before after : ℕ) → Contains pairs (before, after) ↔ Is before after
