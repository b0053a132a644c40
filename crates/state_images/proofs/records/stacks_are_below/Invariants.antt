use Rattle.std.proofs.Common.{◌<◌, ℕ}
use Rattle.std.specs.Prelude.{slice_index_or}
use Rattle.core_state.specs.declared.stack.Stack.{Stack}
use Rattle.step_relation.specs.Numbered.{StackBelow}
use Rattle.state_images.proofs.records.stacks_are_below.Given as goal

abbrev pub invariant-loop-stack : goal.invariant-loop-stack
invariant-loop-stack l = (k : ℕ) (d : Stack) → k < l.stack-index → StackBelow l.next.stack l.next.trav (slice_index_or l.stacks k d)
