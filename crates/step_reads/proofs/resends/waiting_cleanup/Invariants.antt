use Rattle.std.proofs.Common.{ℕ, ◌<◌}
use Rattle.step_relation.specs.Resends.{AwaitsCleanup}
use Rattle.step_reads.proofs.resends.waiting_cleanup.Given as goal

abbrev pub invariant-loop-place : goal.invariant-loop-place
invariant-loop-place l = (k : ℕ) → k < l.place → ¬ AwaitsCleanup l.graph l.row k
