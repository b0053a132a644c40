use Rattle.std.proofs.Common.{◌<◌, ℕ}
use Rattle.std.specs.Prelude.{slice_index_or}
use Rattle.state_images.proofs.records.live_are_below.Given as goal

abbrev pub invariant-loop-engine : goal.invariant-loop-engine
invariant-loop-engine l = (k : ℕ) (d : ℕ) → k < l.engine-index → slice_index_or l.live k d < l.next
