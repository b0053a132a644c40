use Rattle.std.proofs.Common.{◌≡◌, length, arith}
use Rattle.heat_io.proofs.Nexts.{given_end}
use Rattle.heat_io.proofs.lines.LineReader.at_end.Goals as goal

pub returns-clause-next : goal.returns-clause-next
returns-clause-next c =
    let whole : c.len-count.result ≡ length c.args.self.now.held = rw (← c.self.view_is) c.len-count.ensures.held in
    given_end c.args.self.now c.give.new.self c.give.result c.requires.end c.requires.short (omega (arith, whole, c.if-count-eq0.false))
    (rw (← whole) c.give.ensures)
