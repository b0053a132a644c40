-- As the opening says it.
use Rattle.state_journal.proofs.keeper.JournaledKeeper.open.Goals as goal

pub returns-clause-opens : goal.returns-clause-opens
returns-clause-opens g c = rw (← c.self.view_is) c.open.ensures.opens
