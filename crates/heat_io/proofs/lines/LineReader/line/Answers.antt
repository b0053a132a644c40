use Rattle.std.proofs.Common.{refl, arith}
use Rattle.heat_io.specs.declared.next.Next.TheVariants as next
use Rattle.heat_io.proofs.Nexts.{told_lf, told_long}
use Rattle.heat_io.proofs.Takings.{seen_next}
use Rattle.heat_io.proofs.lines.LineReader.line.Goals as goal

pub returns-in-Lf-clause-told : goal.returns-in-Lf-clause-told
returns-in-Lf-clause-told g c =
    let found = c.in-Lf.ensures in
    rw (← c.self.view_is)
    (told_lf c.self.inside.given c.self.inside.held c.find.new.self c.at_lf.new.self.held (g.S.Source.left c.args.source.now) (g.S.Source.left c.find.new.source)
    c.at_lf.result c.at_lf.new.self.given found.all (omega (arith, found.found.0, found.found.1)) c.at_lf.ensures.next)

pub returns-in-TooLong-clause-told : goal.returns-in-TooLong-clause-told
returns-in-TooLong-clause-told g c =
    rw (← c.self.view_is)
    (told_long c.self.inside.given c.self.inside.held c.find.new.self (g.S.Source.left c.args.source.now) (g.S.Source.left c.find.new.source)
    c.in-TooLong.ensures.all c.in-TooLong.ensures.found)

pub returns-in-Lf-clause-seen : goal.returns-in-Lf-clause-seen
returns-in-Lf-clause-seen g c =
    rw (← c.self.view_is)
    (seen_next c.self.inside.given c.self.inside.held c.find.new.self c.at_lf.result c.at_lf.new.self.held c.at_lf.new.self.given
    c.in-Lf.ensures.grows c.at_lf.ensures.next)

pub returns-in-End-clause-seen : goal.returns-in-End-clause-seen
returns-in-End-clause-seen g c =
    rw (← c.self.view_is)
    (seen_next c.self.inside.given c.self.inside.held c.find.new.self c.at_end.result c.at_end.new.self.held c.at_end.new.self.given
    c.in-End.ensures.grows c.at_end.ensures.next)

pub returns-in-TooLong-clause-seen : goal.returns-in-TooLong-clause-seen
returns-in-TooLong-clause-seen g c =
    rw (← c.self.view_is)
    (seen_next c.self.inside.given c.self.inside.held c.find.new.self next.LineTooLong c.find.new.self c.self.inside.given
    c.in-TooLong.ensures.grows (c.in-TooLong.ensures.found, record { rest_same = refl; given_same = refl }))

pub returns-in-ReadFault-clause-seen : goal.returns-in-ReadFault-clause-seen
returns-in-ReadFault-clause-seen g c =
    rw (← c.self.view_is)
    (seen_next c.self.inside.given c.self.inside.held c.find.new.self next.ReadFault c.find.new.self c.self.inside.given
    c.in-ReadFault.ensures.grows (record { rest_same = refl; given_same = refl }))

pub returns-in-Memory-clause-seen : goal.returns-in-Memory-clause-seen
returns-in-Memory-clause-seen g c =
    rw (← c.self.view_is)
    (seen_next c.self.inside.given c.self.inside.held c.find.new.self next.Memory c.find.new.self c.self.inside.given
    c.in-Memory.ensures.grows (record { rest_same = refl; given_same = refl }))
