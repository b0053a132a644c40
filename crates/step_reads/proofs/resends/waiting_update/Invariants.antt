use Rattle.std.proofs.Common.{ℕ, ◌<◌}
use Rattle.step_relation.specs.Resends.{AwaitsUpdate}
use Rattle.step_reads.proofs.resends.waiting_update.Given as goal

abbrev pub invariant-loop-place : goal.invariant-loop-place
invariant-loop-place l = (k : ℕ) → k < l.place → ¬ AwaitsUpdate l.s.state l.stack l.graph l.row k
