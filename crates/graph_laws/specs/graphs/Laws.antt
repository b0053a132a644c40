-- What the laws say: the graph of each stack is that of its plan and its rows.
use Rattle.std.specs.Prelude.{List, Some, ℕ, ◌≡◌}
use Rattle.core_state.specs.State.{StateData, stack_at}
use Rattle.core_state.specs.declared.stack.Stack.{Stack}
use Rattle.step_relation.specs.GraphFits.{GraphFits, graph_of}

abbrev pub GraphsFit : StateData → Type 0
GraphsFit s = (name : List ℕ) (st : Stack) → stack_at s.stacks name ≡ Some st → GraphFits s st (graph_of s name)
