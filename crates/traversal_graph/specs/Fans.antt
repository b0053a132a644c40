-- Candidates, node by node.
use Rattle.std.specs.Prelude.{◌≡◌, ◌<◌, ◌+◌, ◌==◌, ℕ, List, [], ◌∷◌, ◌++◌, All, length, slice_index_or}
use Rattle.heat_plan.specs.declared.item.Item.{Item}
use Rattle.traversal_graph.specs.declared.brief.RowBrief.{RowBrief}
use Rattle.traversal_graph.specs.declared.fans.Fan.{Fan}
use Rattle.traversal_graph.specs.declared.fans.Fan.TheVariants.{In, Out}
use Rattle.traversal_graph.specs.Candidates.{each, edge_if, edges_in, edges_out, place_of}

-- the edges of a fan
abbrev pub fan_edges : Fan → List (ℕ × ℕ)
fan_edges (In befores after) = edges_in befores after
fan_edges (Out before afters) = edges_out before afters

-- the edges of fans, one after another
abbrev pub all_edges : List Fan → List (ℕ × ℕ)
all_edges [] = []
all_edges (fan ∷ fans) = fan_edges fan ++ all_edges fans

-- a fan joins nodes below the size
abbrev pub IsWithin : ℕ → Fan → Type 0
IsWithin size (In befores after) = All (λ node. node < size) befores × (after < size)
IsWithin size (Out before afters) = (before < size) × All (λ node. node < size) afters

-- these candidates come behind those of the fans so far
pub record Adds (size : ℕ) (candidates : List (ℕ × ℕ)) (old new : List Fan) : Type 0 where
  pub edges : all_edges new ≡ all_edges old ++ candidates
  pub within : All (IsWithin size) old → All (IsWithin size) new

-- from an item to each row whose item stands at its place
abbrev pub owned_behind : List Item → List RowBrief → ℕ → ℕ → List (ℕ × ℕ)
owned_behind items rows first place =
    each rows (λ (r : ℕ) (row : RowBrief). edge_if (place_of items row.name == place) place (first + r))

-- for each item the nodes of the rows of its name
pub record OwnsRows (items : List Item) (rows : List RowBrief) (all : List (List ℕ)) : Type 0 where
  pub size : length all ≡ length items
  pub each_item : (place : ℕ) → place < length items
      → edges_out place (slice_index_or all place []) ≡ owned_behind items rows (length items) place
  pub within : (place : ℕ) → All (λ node. node < length items + length rows) (slice_index_or all place [])
