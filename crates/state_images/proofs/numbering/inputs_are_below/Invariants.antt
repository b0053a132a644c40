use Rattle.std.proofs.Common.{◌<◌, ℕ}
use Rattle.std.specs.Prelude.{slice_index_or}
use Rattle.core_state.specs.declared.Input.{Input}
use Rattle.state_images.proofs.numbering.inputs_are_below.Given as goal

abbrev pub invariant-loop-input : goal.invariant-loop-input
invariant-loop-input l = (k : ℕ) (d : Input) → k < l.input-index → (slice_index_or l.inputs k d).row < l.next
