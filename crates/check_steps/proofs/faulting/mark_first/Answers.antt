use Rattle.check_steps.specs.Marks.{marked_changes}
use Rattle.check_steps.proofs.Worn.{none_more}
use Rattle.check_steps.proofs.faulting.mark_first.Goals as goal

pub returns-in-Err-clause-cause : goal.returns-in-Err-clause-cause
returns-in-Err-clause-cause c =
    none_more (marked_changes c.args.e c.args.found.now) c.args.last.changes c.in-Err.refusal c.in-Err.ensures.cause
