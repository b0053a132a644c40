-- What the lines do that show something of a stack.
use Rattle.std.specs.Prelude.{◌≡◌, ◌≢◌, ℕ, List, Some, None, codes}
use Rattle.heat_plan.specs.declared.phase.Status.TheVariants.{Complete}
use Rattle.core_state.specs.declared.entry.Entry.{Entry}
use Rattle.core_state.specs.declared.entry.ShowWhat.{ShowWhat}
use Rattle.core_state.specs.declared.entry.ShowWhat.TheVariants as show
use Rattle.core_state.specs.declared.entry.What.TheVariants as what
use Rattle.core_state.specs.declared.stack.Stack.{Stack}
use Rattle.core_state.specs.State.{StateData, stack_at}
use Rattle.converge_call.specs.Notes.{refused, Notes}

-- the stack is there and is shown, or there is none of the name
pub data ShowDoes (number : ℕ) (it : ShowWhat) (name : List ℕ) (old new : StateData) (es : List Entry) : Type 0 where
  shown : (there : Stack) → stack_at old.stacks name ≡ Some there → Notes (what.Show it name) old new es
      → ShowDoes number it name old new es
  unknown : stack_at old.stacks name ≡ None → Notes (refused number (codes "E11")) old new es
      → ShowDoes number it name old new es

-- outputs are shown of a stack whose newest traversal is marked Complete
pub data OutputsDoes (number : ℕ) (name : List ℕ) (old new : StateData) (es : List Entry) : Type 0 where
  settled : (there : Stack) → stack_at old.stacks name ≡ Some there → there.status ≡ Complete
      → Notes (what.Show show.Outputs name) old new es
      → OutputsDoes number name old new es
  unsettled : (there : Stack) → stack_at old.stacks name ≡ Some there → there.status ≢ Complete
      → Notes (refused number (codes "E18")) old new es
      → OutputsDoes number name old new es
  absent : stack_at old.stacks name ≡ None → Notes (refused number (codes "E11")) old new es
      → OutputsDoes number name old new es
