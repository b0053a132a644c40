-- Loops: paths along at least one edge from a node to itself.
use Rattle.std.specs.Prelude.{ℕ, List, Bool, Contains}
use Rattle.dep_graph.specs.Marks.{IsMarked}
use Rattle.dep_graph.specs.Paths.{HasPath}

-- a path leads from the node along an edge, or several, to itself
pub record IsOnLoop (Edge : ℕ → ℕ → Type 0) (node : ℕ) : Type 0 where
  pub next : ℕ
  pub edge : Edge node next
  pub back : HasPath Edge next node

-- one of the nodes has its mark
pub record HasMarked (nodes : List ℕ) (marks : List Bool) : Type 0 where
  pub node : ℕ
  pub in_nodes : Contains nodes node
  pub marked : IsMarked marks node
