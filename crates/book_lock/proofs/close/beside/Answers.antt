use Rattle.std.proofs.Common.{arith}
use Rattle.book_lock.proofs.close.beside.Goals as goal

pub unreachable-requires : goal.unreachable-requires
unreachable-requires g c =
    c.loop-i.invariant c.requires.0 (omega (arith, c.requires.1, c.loop-i-test.false)) c.args.pass.now (c.requires.2 c.args.pass.now)
