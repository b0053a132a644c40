use Rattle.std.proofs.Common.{◌≡◌}
use Rattle.book_lock.specs.Closing.{IsFree}
use Rattle.book_lock.proofs.tests.work.Given as goal

abbrev pub invariant-loop-number : goal.invariant-loop-number
invariant-loop-number g l = record { free : IsFree l.shared l.pass; name : l.pass.name ≡ l.fn.pass.name }
