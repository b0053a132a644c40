-- More room changes nothing that is shown.
use Rattle.state_journal.proofs.Keeping.{same_keeper}
use Rattle.state_journal.proofs.keeper.JournaledKeeper.reserve.Goals as goal

pub returns-clause-same : goal.returns-clause-same
returns-clause-same g c = rw (← c.self.view_is) (same_keeper _ _ _ _ _ _ c.reserve-2.ensures.tells
    c.reserve-2.ensures.place c.reserve-2.ensures.failed c.reserve-2.ensures.content)
