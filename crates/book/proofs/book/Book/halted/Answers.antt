use Rattle.std.proofs.Common.{refl}
use Rattle.book.proofs.book.Book.halted.Goals as goal

pub returns-clause-value : goal.returns-clause-value
returns-clause-value g c = rw (← c.self.view_is) refl

pub returns-clause-cause : goal.returns-clause-cause
returns-clause-cause g c = rw (← c.self.view_is) c.self.invariant.1.1.0
