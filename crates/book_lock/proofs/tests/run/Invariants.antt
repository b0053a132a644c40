use Rattle.std.proofs.Common.{All}
use Rattle.book_lock.specs.Closing.{AreAll, IsFree}
use Rattle.book_lock.proofs.tests.run.Given as goal

abbrev pub invariant-loop : goal.invariant-loop
invariant-loop g l = record { free : All (IsFree l.shared) l.passes.items; all : AreAll l.passes.items }
