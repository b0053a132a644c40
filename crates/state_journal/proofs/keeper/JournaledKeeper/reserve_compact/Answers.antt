-- More room changes nothing that is shown.
use Rattle.state_journal.proofs.Keeping.{same_keeper}
use Rattle.state_journal.proofs.keeper.JournaledKeeper.reserve_compact.Goals as goal

pub returns-clause-same : goal.returns-clause-same
returns-clause-same g c = rw (← c.self.view_is) (same_keeper _ _ _ _ _ _ c.reserve_snapshot.ensures.tells
    c.reserve_snapshot.ensures.place c.reserve_snapshot.ensures.failed c.reserve_snapshot.ensures.content)
