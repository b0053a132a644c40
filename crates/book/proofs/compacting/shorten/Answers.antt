use Rattle.book.proofs.Keepers.{shortens_not}
use Rattle.book.proofs.compacting.shorten.Goals as goal

pub returns-then-is_err : goal.returns-then-is_err
returns-then-is_err g c = shortens_not _ _ _ (g.met.K.Keeper.lawful _) c.reserve_compact.ensures.same _ _
    c.reserve_compact.ensures.faults _ c.requires.stands
