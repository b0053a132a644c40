-- A job that is overrun is released; another begins at its node.
use Rattle.book.proofs.Beginnings.{at_update}
use Rattle.book.proofs.QuietTurns.{nothing_made, nothing_refused}
use Rattle.book.proofs.beginning.begin_job.Goals as goal

pub begin_update-requires : goal.begin_update-requires
begin_update-requires _ c = at_update _ c.requires.workable.workable.graphs c.args.e _ c.requires.works _ _ _ _ _ _ c.in-U.is
    c.in-Some.ensures.some

pub returns-in-None-clause-made : goal.returns-in-None-clause-made
returns-in-None-clause-made _ c = nothing_made _ _ c.begin_overrun.result c.begin_overrun.ensures.made

pub returns-in-None-clause-cause : goal.returns-in-None-clause-cause
returns-in-None-clause-cause _ c = nothing_refused _ _ c.begin_overrun.result c.begin_overrun.ensures.cause

pub returns-in-C-clause-made : goal.returns-in-C-clause-made
returns-in-C-clause-made _ c = nothing_made _ _ c.begin.result c.begin.ensures.made

pub returns-in-C-clause-cause : goal.returns-in-C-clause-cause
returns-in-C-clause-cause _ c = nothing_refused _ _ c.begin.result c.begin.ensures.cause
