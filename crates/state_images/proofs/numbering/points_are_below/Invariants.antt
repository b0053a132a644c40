use Rattle.std.proofs.Common.{◌<◌, ℕ}
use Rattle.std.specs.Prelude.{slice_index_or}
use Rattle.core_state.specs.declared.Point.{Point}
use Rattle.state_images.specs.Ties.{HasLowInputs}
use Rattle.state_images.proofs.numbering.points_are_below.Given as goal

abbrev pub invariant-loop-place : goal.invariant-loop-place
invariant-loop-place l = (k : ℕ) (d : Point) → k < l.place → HasLowInputs l.next (slice_index_or l.graph.points k d)
