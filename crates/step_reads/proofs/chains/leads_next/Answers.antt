use Rattle.step_reads.specs.Chains.{goes_on}
use Rattle.step_reads.proofs.chains.leads_next.Goals as goal

pub returns-in-Some-clause-yes : goal.returns-in-Some-clause-yes
returns-in-Some-clause-yes c = goes_on c.in-Some.no c.in-Some.is (c.is_below.ensures.value.0 c.if-is_below.true)
    (c.is_in.ensures.0 c.if-is_in.true)
