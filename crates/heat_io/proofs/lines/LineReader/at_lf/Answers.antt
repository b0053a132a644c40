use Rattle.std.proofs.Common.{arith}
use Rattle.heat_io.proofs.Nexts.{front_is, given_lf}
use Rattle.heat_io.proofs.lines.LineReader.at_lf.Goals as goal

pub returns-clause-next : goal.returns-clause-next
returns-clause-next c =
    let len = c.len_before_cr-len in
    given_lf len.result c.args.self.now c.give.new.self c.give.result
    (omega (arith, c.requires.first, c.requires.lf)) (omega (arith, c.requires.first, c.requires.short))
    (front_is c.args.self.now.held c.as_slice.result.now c.args.count len.result (rw (← c.self.view_is) c.as_slice.ensures.held) c.requires.first len.ensures.within len.ensures.front)
    (rw (← c.requires.first) c.give.ensures)
