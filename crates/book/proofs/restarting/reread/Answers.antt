-- The keeper is read again as this state, or not.
use Rattle.book.proofs.Restarted.{fault_one, read_as, reread_not, reread_well}
use Rattle.book.proofs.restarting.reread.Goals as goal

pub returns-in-Ok-true : goal.returns-in-Ok-true
returns-in-Ok-true g c = reread_well _ _ _ _ _ _ (g.met.K.Keeper.lawful _) c.requires c.reread.ensures.goes_on
    c.reread.ensures.crash (c.in-Ok-true.ensures.same (λ f. cc))

pub returns-in-Err : goal.returns-in-Err
returns-in-Err g c = rw c.unread.ensures (reread_not _ _ _ _ _ _ (g.met.K.Keeper.lawful _) c.requires
    c.reread.ensures.goes_on c.reread.ensures.crash c.in-Err.fault
    (λ ne. c.reread.ensures.same (λ f. ne (fault_one _ _ _ c.in-Err.is f)))
    (λ f recalls. c.reread.ensures.foreign (read_as _ _ _ c.in-Err.is f) recalls c.requires.stands)
    (λ f. c.reread.ensures.cause (read_as _ _ _ c.in-Err.is f)))
