-- As the taking up says it.
use Rattle.row_journal.proofs.journal.Journal.open.Goals as goal

pub returns-in_err-found-clause-any_moment : goal.returns-in_err-found-clause-any_moment
returns-in_err-found-clause-any_moment g c = rw (← c.self.view_is) c.take_up.ensures.any_moment

pub returns-clause-any_moment : goal.returns-clause-any_moment
returns-clause-any_moment g c = rw (← c.self.view_is) c.take_up.ensures.any_moment
