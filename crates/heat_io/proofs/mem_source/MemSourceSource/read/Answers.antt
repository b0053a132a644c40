use Rattle.std.proofs.Common.{arith}
use Rattle.heat_io.proofs.Streaming.{gives_piece}
use Rattle.heat_io.proofs.mem_source.MemSourceSource.read.Goals as goal

pub returns-clause-gives : goal.returns-clause-gives
returns-clause-gives c =
    rw (← c.self.view_is)
    (gives_piece c.self.inside.all.items c.deref.result.now c.front-count.new.buf c.self.inside.read c.front-count.result
    c.deref.ensures.value (omega (arith, c.if-count-eq0.false)) (omega (arith, c.front-count.ensures.count, c.front-count.auto.buf)) c.front-count.ensures.moved)
