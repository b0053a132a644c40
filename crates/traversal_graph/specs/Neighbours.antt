-- The predecessors of all nodes, list by list.
use Rattle.std.specs.Prelude.{◌≡◌, ◌≢◌, ◌<◌, ℕ, List, [], length, slice_index_or}
use Rattle.dep_graph.specs.Lists.{IsRising, ListsAll, PutsIn}
use Rattle.traversal_graph.specs.Builds.{Joins}

-- each list rises
abbrev pub AreRising : List (List ℕ) → Type 0
AreRising all = (node : ℕ) → IsRising (slice_index_or all node [])

-- for each of so many nodes its predecessors, rising
pub record ListsPreds (edges : List (ℕ × ℕ)) (count : ℕ) (all : List (List ℕ)) : Type 0 where
  pub size : length all ≡ count
  pub each : (node : ℕ) → node < count
      → ListsAll (λ before. Joins edges before node) (slice_index_or all node [])

-- a node's list has one node more, where there is such a list, and the others stay
pub record PutsPred (before after : ℕ) (old new : List (List ℕ)) : Type 0 where
  pub size : length new ≡ length old
  pub puts : after < length old → PutsIn (slice_index_or old after []) before (slice_index_or new after [])
  pub same : (node : ℕ) → node ≢ after → slice_index_or new node [] ≡ slice_index_or old node []
