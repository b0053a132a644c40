use Rattle.std.proofs.Common.{◌≡◌}
use Rattle.book_lock.specs.Closing.{IsFree}
use Rattle.bench_core.proofs.lock.passes.hold_often.Given as goal

abbrev pub invariant-loop : goal.invariant-loop
invariant-loop g l = record { free : IsFree l.shared l.pass; name : l.pass.name ≡ l.fn.pass.name }
