-- Who is told again that a row is free: a node that waits for it.
use Rattle.std.specs.Prelude.{List, Some, [], slice_get, ℕ, ◌∷◌, ◌≡◌}
use Rattle.dep_graph.specs.Lists.{IsLeast}
use Rattle.traversal_graph.specs.declared.shape.Node.TheVariants.{C, U}
use Rattle.mail_table.specs.declared.mail.Letter.{Letter}
use Rattle.core_state.specs.Reads.{IsDone, IsReady}
use Rattle.core_state.specs.State.{StateData, graph_at, stack_at}
use Rattle.core_state.specs.declared.graph.Graph.{Graph}
use Rattle.core_state.specs.declared.stack.Stack.{Stack}
use Rattle.step_relation.specs.Targets.{IsTarget}
use Rattle.step_relation.specs.Writes.{letter_to}

-- a node that is ready and not done
pub record IsOpen (g : Graph) (i : ℕ) : Type 0 where
  pub ready : IsReady g i
  pub undone : ¬ IsDone g i

-- an update node of the graph that waits for the row of this number
pub record AwaitsUpdate (s : StateData) (st : Stack) (g : Graph) (number i : ℕ) : Type 0 where
  pub name : List ℕ
  pub chosen : ℕ
  pub node : slice_get g.graph.nodes i ≡ Some (U name chosen)
  pub to : IsTarget s.rows st.name (U name chosen) number
  pub open_ : IsOpen g i

-- a clean-up node of the graph that waits for it
pub record AwaitsCleanup (g : Graph) (number i : ℕ) : Type 0 where
  pub node : slice_get g.graph.nodes i ≡ Some (C number)
  pub open_ : IsOpen g i

-- a stack of this name with its graph
pub record HasGraph (s : StateData) (name : List ℕ) (st : Stack) (g : Graph) : Type 0 where
  pub in_table : stack_at s.stacks name ≡ Some st
  pub its_graph : graph_at s.graphs name ≡ Some g

-- a letter for the update node that waits for a row; else for the clean-up node; else none
pub data Resends (s : StateData) (name : List ℕ) (number : ℕ) : List Letter → Type 0 where
  update : (st : Stack) (g : Graph) (i : ℕ) → HasGraph s name st g → IsLeast (AwaitsUpdate s st g number) i
      → Resends s name number (letter_to st s.next.letter i ∷ [])
  cleanup : (st : Stack) (g : Graph) (i : ℕ) → HasGraph s name st g
      → ((k : ℕ) → ¬ AwaitsUpdate s st g number k) → IsLeast (AwaitsCleanup g number) i
      → Resends s name number (letter_to st s.next.letter i ∷ [])
  nobody : ((st : Stack) (g : Graph) (k : ℕ) → HasGraph s name st g → ¬ AwaitsUpdate s st g number k)
      → ((st : Stack) (g : Graph) (k : ℕ) → HasGraph s name st g → ¬ AwaitsCleanup g number k)
      → Resends s name number []
