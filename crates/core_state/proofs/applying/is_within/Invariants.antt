use Rattle.std.proofs.Common.{◌<◌, ℕ}
use Rattle.std.specs.Prelude.{slice_index_or}
use Rattle.core_state.proofs.applying.is_within.Given as goal

abbrev pub invariant-loop-before : goal.invariant-loop-before
invariant-loop-before l = (k : ℕ) (d : ℕ × ℕ) → k < l.before-index
    → ((slice_index_or l.before-items k d).0 < l.count) × ((slice_index_or l.before-items k d).1 < l.count)
