use Rattle.step_reads.proofs.WorkLemmas.{asked_none}
use Rattle.step_reads.proofs.work.is_asked.Goals as goal

pub returns-in-None : goal.returns-in-None
returns-in-None c = asked_none c.args.stack.now c.args.name.now c.in-None.is
