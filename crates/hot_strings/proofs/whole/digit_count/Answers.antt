use Rattle.std.proofs.Common.{arith}
use Rattle.hot_strings.proofs.Weights.{length-decimal-twenty, length-decimal-tenth, length-decimal-one}
use Rattle.hot_strings.proofs.whole.digit_count.Goals as goal

pub overflow_add-count : goal.overflow_add-count
overflow_add-count c = omega (arith, c.loop-left.invariant.1, length-decimal-twenty c.args.number (omega arith))

pub loop-left-preserved : goal.loop-left-preserved
loop-left-preserved c = (
  omega (arith, c.loop-left.invariant.0),
  omega (arith, c.loop-left.invariant.1, length-decimal-tenth c.loop-left.left (omega arith) (omega arith)),
)

pub returns : goal.returns
returns c = omega (arith, c.loop-left.invariant.1, length-decimal-one c.loop-left.left (omega arith))
