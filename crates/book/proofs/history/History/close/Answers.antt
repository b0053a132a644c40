-- Closed is the last entry.
use Rattle.std.proofs.Common.{refl}
use Rattle.book.proofs.Closings.{marked_closed}
use Rattle.book.proofs.history.History.close.Goals as goal

pub invariant_of-self : goal.invariant_of-self
invariant_of-self c = marked_closed _ _ _ _ refl c.push.ensures.items
