use Rattle.heat_io.proofs.Takings.{few_behind_line}
use Rattle.heat_io.proofs.lines.LineReader.next.Goals as goal

pub returns-clause-seen : goal.returns-clause-seen
returns-clause-seen g c = rw (← c.self.view_is) at c.line-next.ensures.seen

pub returns-clause-behind : goal.returns-clause-behind
returns-clause-behind g c line at =
    let seen = rw (← c.self.view_is) at c.line-next.ensures.seen in
    few_behind_line c.args.self.now.given c.args.self.now.held seen.0 c.line-next.result c.self.inside.held c.self.inside.given
    seen.1 seen.2 line at
