-- The nodes of a graph, and what a graph is of its items and rows.
use Rattle.std.specs.Prelude.{◌≡◌, ℕ, List, [], ◌∷◌, ◌++◌, map, nat_eq, IsPermutation}
use Rattle.std.specs.List.{IsDistinct}
use Rattle.std.specs.List.Sorted.{IsNonDecreasing, IsStrictlyIncreasing}
use Rattle.heat_plan.specs.declared.item.Item.{Item}
use Rattle.traversal_graph.specs.declared.brief.RowBrief.{RowBrief}
use Rattle.traversal_graph.specs.declared.shape.Node.{Node}
use Rattle.traversal_graph.specs.declared.shape.Node.TheVariants.{U, C}
use Rattle.traversal_graph.specs.declared.shape.TravGraph.{TravGraph}
use Rattle.traversal_graph.specs.Builds.{Keeps}
use Rattle.traversal_graph.specs.Candidates.{candidates}

-- an update node for each item, with the row chosen for it
abbrev pub update_nodes : List Item → List ℕ → List Node
update_nodes [] chosen = []
update_nodes (item ∷ items) [] = []
update_nodes (item ∷ items) (row ∷ chosen) = U item.name row ∷ update_nodes items chosen

-- a clean-up node for each row
abbrev pub cleanup_nodes : List RowBrief → List Node
cleanup_nodes rows = map (λ (row : RowBrief). C row.no) rows

-- the numbers of rows
abbrev pub numbers_of : List RowBrief → List ℕ
numbers_of rows = map (λ (row : RowBrief). row.no) rows

-- the same rows by their numbers, which rise where no two are equal
pub record IsSortedCopy (rows sorted : List RowBrief) : Type 0 where
  pub same : IsPermutation rows sorted
  pub ordered : IsNonDecreasing (numbers_of sorted)
  pub rising : IsDistinct nat_eq (numbers_of rows) → IsStrictlyIncreasing (numbers_of sorted)

-- update nodes in the items' order, then clean-up nodes by rising number, and the candidates that are kept
pub record IsBuilt (items : List Item) (chosen : List ℕ) (rows : List RowBrief) (graph : TravGraph) : Type 0 where
  pub sorted : List RowBrief
  pub rows_are : IsSortedCopy rows sorted
  pub nodes : graph.nodes ≡ update_nodes items chosen ++ cleanup_nodes sorted
  pub edges : Keeps [] (candidates items sorted) graph.edges
