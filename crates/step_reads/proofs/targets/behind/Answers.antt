use Rattle.step_reads.proofs.TargetLemmas.{behind_of}
use Rattle.step_reads.proofs.targets.behind.Goals as goal

pub returns-in-Some-clause-some : goal.returns-in-Some-clause-some
returns-in-Some-clause-some c = behind_of _ c.args.row.now c.in-Some.no c.row.result c.in-Some.is
    (c.is_below.ensures.value.0 c.if-is_below.true) c.is_below.ensures.range c.row.ensures
