use Rattle.std.proofs.Common.{arith}
use Rattle.hot_strings.proofs.Weights.{length-decimal-twenty}
use Rattle.hot_strings.proofs.whole.whole_len.Goals as goal

pub overflow_add-result : goal.overflow_add-result
overflow_add-result c = omega (arith, c.digit_count-count.ensures, length-decimal-twenty c.unsigned_abs.result (omega arith))
