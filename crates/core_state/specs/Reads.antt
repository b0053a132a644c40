-- What the words of the steps mean in a state.
use Rattle.std.specs.Prelude.{◌≡◌, ℕ, true, List, Option, Some, Contains, slice_get}
use Rattle.std.specs.Str.{bytes_eq}
use Rattle.heat_plan.specs.declared.item.Item.{Item}
use Rattle.core_state.specs.declared.graph.Graph.{Graph}
use Rattle.sync_points.specs.declared.point.Input.{Input}
use Rattle.sync_points.specs.declared.point.Point.{Point}
use Rattle.heat_plan.specs.Tables.{at}

-- the item of this name
abbrev pub item_at : List Item → List ℕ → Option Item
item_at = at bytes_eq (λ (i : Item). i.name)

-- the node at the place a has given the node i its input
pub record HasInput (g : Graph) (i a : ℕ) : Type 0 where
  pub point : Point
  pub input : Input
  pub there : slice_get g.points i ≡ Some point
  pub among : Contains point.inputs input
  pub from : input.from ≡ a

-- each edge into the node has its input
abbrev pub IsReady : Graph → ℕ → Type 0
IsReady g i = (a : ℕ) → Contains g.graph.edges (a, i) → HasInput g i a

-- the node is done
pub record IsDone (g : Graph) (i : ℕ) : Type 0 where
  pub point : Point
  pub there : slice_get g.points i ≡ Some point
  pub done : point.done ≡ true
