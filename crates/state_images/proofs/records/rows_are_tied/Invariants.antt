use Rattle.std.proofs.Common.{◌<◌, ℕ}
use Rattle.std.specs.Prelude.{slice_index_or}
use Rattle.core_state.specs.declared.Row.{Row}
use Rattle.state_images.specs.Ties.{IsTiedRow}
use Rattle.state_images.proofs.records.rows_are_tied.Given as goal

abbrev pub invariant-loop-row : goal.invariant-loop-row
invariant-loop-row l = (k : ℕ) (d : Row) → k < l.row-index → IsTiedRow l.s.state (slice_index_or l.rows k d)
