-- How far the rows of each stack are fits its graph.
use Rattle.std.specs.Prelude.{List, Some, ℕ, ◌≡◌}
use Rattle.core_state.specs.State.{StateData, stack_at}
use Rattle.core_state.specs.declared.stack.Stack.{Stack}
use Rattle.step_relation.specs.GraphFits.{graph_of}
use Rattle.step_relation.specs.RowsFit.{RowsFit}

abbrev pub AllRowsFit : StateData → Type 0
AllRowsFit s = (name : List ℕ) (st : Stack) → stack_at s.stacks name ≡ Some st → RowsFit s st (graph_of s name)
