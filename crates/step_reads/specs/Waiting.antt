-- The nodes that are told: again that a row is free, or that all that they waited for is there.
use Rattle.std.specs.Prelude.{Contains, List, None, Option, Some, [], slice_get, true, ℕ, ◌∷◌, ◌≡◌, ◌⊎◌}
use Rattle.dep_graph.specs.Lists.{IsLeast}
use Rattle.traversal_graph.specs.declared.shape.Node.{Node}
use Rattle.traversal_graph.specs.declared.shape.Node.TheVariants.{U}
use Rattle.row_table.specs.declared.row.Row.{Row}
use Rattle.sync_points.specs.declared.point.Input.{Input}
use Rattle.sync_points.specs.declared.point.Point.{Point}
use Rattle.core_state.specs.Reads.{IsReady}
use Rattle.core_state.specs.State.{StateData, stack_at}
use Rattle.core_state.specs.declared.graph.Graph.{Graph}
use Rattle.core_state.specs.declared.stack.Stack.{Stack}
use Rattle.step_relation.specs.Inputs.{passed}
use Rattle.step_relation.specs.Resends.{IsOpen, Resends}
use Rattle.step_relation.specs.Targets.{IsTarget}
use Rattle.step_relation.specs.Writes.{letter_to}

-- a letter to this node of the stack is what is sent again, or nothing is
abbrev pub IsResent : StateData → List ℕ → ℕ → Option ℕ → Type 0
IsResent s name number (Some node) = (st : Stack) × (stack_at s.stacks name ≡ Some st)
    × Resends s name number (letter_to st s.next.letter node ∷ [])
IsResent s name number None = Resends s name number []

-- a node behind i that is ready once i is done and gave x
abbrev pub IsReadyThen : Graph → ℕ → Input → List ℕ → ℕ → Type 0
IsReadyThen g i x succs k = Contains succs k × IsReady (passed g i x succs) k

-- a node that is done once i is done
pub record IsDoneThen (g : Graph) (i k : ℕ) : Type 0 where
  pub point : Point
  pub there : slice_get g.points k ≡ Some point
  pub done : (k ≡ i) ⊎ (point.done ≡ true)

-- the least of the kind, if there is one
abbrev pub IsLeastIf : (ℕ → Type 0) → Option ℕ → Type 0
IsLeastIf Is (Some n) = IsLeast Is n
IsLeastIf Is None = (k : ℕ) → ¬ Is k

-- the node of this place, where it is ready and not done
abbrev pub IsOpenIf : Graph → ℕ → Option ℕ → Type 0
IsOpenIf g i (Some n) = (n ≡ i) × IsOpen g i
IsOpenIf g i None = ¬ IsOpen g i

-- an update node whose target is the row of this number
pub data IsUpdateOf (rows : List Row) (stack : List ℕ) (node : Node) (number : ℕ) : Type 0 where
  update : (name : List ℕ) (chosen : ℕ) → node ≡ U name chosen → IsTarget rows stack node number
      → IsUpdateOf rows stack node number
