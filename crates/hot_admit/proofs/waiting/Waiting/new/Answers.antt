-- Nothing waits, and nothing is due.
use Rattle.std.proofs.Common.{arith}
use Rattle.hot_admit.proofs.waiting.Waiting.new.Goals as goal

pub invariant_of-result : goal.invariant_of-result
invariant_of-result c = (
  λ k d inside i e below. absurd (omega (arith, below, c.loop-place.invariant.0 k d inside)),
  λ k d below. absurd (omega (arith, below, c.new-2.ensures.len)),
)
