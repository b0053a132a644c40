-- How many of each node's predecessors are left, while nodes are taken away.
use Rattle.std.specs.Prelude.{◌≡◌, ◌<◌, ◌+◌, ◌↔◌, ℕ, Bool, false, List, []}
use Rattle.std.specs.Prelude.{Contains, length, count_by, nat_eq, slice_index_or}
use Rattle.dep_graph.specs.Edges.{Links}
use Rattle.dep_graph.specs.Marks.{IsMarked}

-- how often a number stands in a list
abbrev pub occurrences : ℕ → List ℕ → ℕ
occurrences number = count_by (λ other. nat_eq other number)

-- how many of the nodes have their marks
abbrev pub marked_count : List Bool → List ℕ → ℕ
marked_count marks = count_by (λ node. slice_index_or marks node false)

-- each node's count is that of its predecessors with marks
pub record CountsLeft (graph : Links) (left : List Bool) (counts : List ℕ) : Type 0 where
  pub same : length counts ≡ length graph
  pub each : (node : ℕ)
      → slice_index_or counts node 0 ≡ marked_count left (slice_index_or graph node [])

-- a node whose count is none
abbrev pub HasNone : List ℕ → ℕ → Type 0
HasNone counts node = (node < length counts) × (slice_index_or counts node 0 ≡ 0)

-- exactly the marked nodes whose count is none are listed
abbrev pub ListsReady : List Bool → List ℕ → List ℕ → Type 0
ListsReady left counts ready = (node : ℕ)
    → Contains ready node ↔ (IsMarked left node × (slice_index_or counts node 0 ≡ 0))

-- each count falls by one for each time that its node is listed
pub record CountsDown (nodes old new : List ℕ) : Type 0 where
  pub same : length new ≡ length old
  pub each : (node : ℕ)
      → slice_index_or new node 0 + occurrences node nodes ≡ slice_index_or old node 0
