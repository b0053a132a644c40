use Rattle.std.proofs.Common.{arith}
use Rattle.heat_plan.proofs.Decimals.{decimal_begins, decimal_is_text}
use Rattle.heat_plan.proofs.numbers.read_decimal.Goals as goal

pub returns-then-is_empty-clause-none : goal.returns-then-is_empty-clause-none
returns-then-is_empty-clause-none c _ n is e = absurd (grind (arith, decimal_begins n _ is e))

pub returns-then-bytes-le48-clause-none : goal.returns-then-bytes-le48-clause-none
returns-then-bytes-le48-clause-none c _ n is e = absurd (omega (arith, decimal_begins n _ is e))

pub returns-in-Err-clause-none : goal.returns-in-Err-clause-none
returns-in-Err-clause-none c _ n is e = c.in-Err.ensures.cases.0 (decimal_is_text n _ is e)
