use Rattle.std.proofs.Common.{ℕ, ◌<◌}
use Rattle.step_reads.specs.Waiting.{IsDoneThen}
use Rattle.step_reads.proofs.finishing.all_done.Given as goal

abbrev pub invariant-loop-place : goal.invariant-loop-place
invariant-loop-place l = (k : ℕ) → k < l.place → IsDoneThen l.graph l.node k
