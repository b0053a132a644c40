-- Which edges into a node have their inputs.
use Rattle.std.specs.Prelude.{Contains, List, Option, Some, slice_get, ℕ, ◌≡◌, ◌⊎◌}
use Rattle.traversal_graph.specs.Builds.{Joins}
use Rattle.sync_points.specs.declared.point.Input.{Input}
use Rattle.sync_points.specs.declared.point.Point.{Point}
use Rattle.core_state.specs.declared.graph.Graph.{Graph}

-- the node a gave one of the inputs, or is the one that is added
abbrev pub ComesFrom : List Input → Option ℕ → ℕ → Type 0
ComesFrom inputs from a = ((x : Input) × Contains inputs x × (x.from ≡ a)) ⊎ (from ≡ Some a)

-- the same of a node's point
pub record HasInputWith (g : Graph) (i : ℕ) (from : Option ℕ) (a : ℕ) : Type 0 where
  pub point : Point
  pub there : slice_get g.points i ≡ Some point
  pub comes : ComesFrom point.inputs from a

-- each edge into the node has its input, or comes from the one that is added
abbrev pub IsReadyWith : Graph → ℕ → Option ℕ → Type 0
IsReadyWith g i from = (a : ℕ) → Joins g.graph.edges a i → HasInputWith g i from a

-- each edge into the node comes from one of these
abbrev pub HaveAll : List (ℕ × ℕ) → ℕ → List ℕ → Type 0
HaveAll edges node sources = (a : ℕ) → Joins edges a node → Contains sources a

-- one comes from elsewhere
pub record LacksOne (edges : List (ℕ × ℕ)) (node : ℕ) (sources : List ℕ) : Type 0 where
  pub before : ℕ
  pub edge : Joins edges before node
  pub lacking : ¬ Contains sources before
