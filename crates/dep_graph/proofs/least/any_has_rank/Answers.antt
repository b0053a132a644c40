-- The first that has the rank, or that none has.
use Rattle.std.proofs.Common.{arith}
use Rattle.std.proofs.lemmas.Bool.{false≢true}
use Rattle.dep_graph.proofs.LoopLemmas.{none_has_rank}
use Rattle.dep_graph.proofs.least.any_has_rank.Goals as goal

pub returns : goal.returns
returns c = (
  λ h. absurd (false≢true h),
  λ h. absurd (none_has_rank c.args.nodes.now c.args.ranks.now c.args.rank
      (λ k lt. c.loop-node.invariant k (omega (arith, lt, c.loop-node-test.false))) h),
)
