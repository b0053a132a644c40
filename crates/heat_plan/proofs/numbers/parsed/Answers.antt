use Rattle.heat_plan.proofs.Decimals.{parsed_is_decimal, unparsed_is_none}
use Rattle.heat_plan.proofs.numbers.parsed.Goals as goal

pub returns-clause-some : goal.returns-clause-some
returns-clause-some c = rw c.ok.ensures.value (parsed_is_decimal _ _ c.requires c.parse.ensures.value.0)

pub returns-clause-none : goal.returns-clause-none
returns-clause-none c none n is e = unparsed_is_none _ _ n c.parse.ensures.value.0 (rw c.ok.ensures.value at none) is e
