use Rattle.std.proofs.Common.{◌∙◌, sym, subst, arith}
use Rattle.heat_io.specs.Lines.{is_lf}
use Rattle.heat_io.specs.Reading.{HasNoEnd}
use Rattle.heat_io.proofs.Ends.{position_or_len-none, searched_more}
use Rattle.heat_io.proofs.Streaming.{ahead-taken}
use Rattle.heat_io.proofs.Takings.{no_end_before, takes_same, takes_more}
use Rattle.heat_io.proofs.held.HeldBytes.find.Goals as goal

pub returns-in-End-clause-found : goal.returns-in-End-clause-found
returns-in-End-clause-found g c =
    let came = c.in-End.ensures.filled in
    rw (came.0, came.1)
    (position_or_len-none is_lf c.loop-self.self c.loop-self.end c.loop-self-test.ensures c.loop-self.invariant.searched, omega (arith, c.len.ensures.held, c.if-len-le-LINE_LIMIT.true), came.2)

pub returns-in-End-clause-grows : goal.returns-in-End-clause-grows
returns-in-End-clause-grows g c =
    takes_same c.args.self.now c.loop-self.self c.fill.new.self c.loop-self.invariant.grows c.in-End.ensures.filled.0

pub returns-in-End-clause-unread : goal.returns-in-End-clause-unread
returns-in-End-clause-unread g c some =
    absurd (no_end_before c.args.self.now c.loop-self.self c.loop-self.invariant.grows
    (position_or_len-none is_lf c.loop-self.self c.loop-self.end c.loop-self-test.ensures c.loop-self.invariant.searched) some)

pub returns-in-ReadFault-clause-grows : goal.returns-in-ReadFault-clause-grows
returns-in-ReadFault-clause-grows g c =
    takes_same c.args.self.now c.loop-self.self c.fill.new.self c.loop-self.invariant.grows c.in-ReadFault.ensures.filled.0

pub returns-in-ReadFault-clause-unread : goal.returns-in-ReadFault-clause-unread
returns-in-ReadFault-clause-unread g c some =
    absurd (no_end_before c.args.self.now c.loop-self.self c.loop-self.invariant.grows
    (position_or_len-none is_lf c.loop-self.self c.loop-self.end c.loop-self-test.ensures c.loop-self.invariant.searched) some)

pub returns-in-ReadFault-clause-unended : goal.returns-in-ReadFault-clause-unended
returns-in-ReadFault-clause-unended g c fault =
    subst HasNoEnd (sym c.in-ReadFault.ensures.filled.0)
    (position_or_len-none is_lf c.loop-self.self c.loop-self.end c.loop-self-test.ensures c.loop-self.invariant.searched)

pub returns-in-Memory-clause-grows : goal.returns-in-Memory-clause-grows
returns-in-Memory-clause-grows g c =
    takes_same c.args.self.now c.loop-self.self c.fill.new.self c.loop-self.invariant.grows c.in-Memory.ensures.filled.0

pub returns-in-Memory-clause-unread : goal.returns-in-Memory-clause-unread
returns-in-Memory-clause-unread g c some =
    absurd (no_end_before c.args.self.now c.loop-self.self c.loop-self.invariant.grows
    (position_or_len-none is_lf c.loop-self.self c.loop-self.end c.loop-self-test.ensures c.loop-self.invariant.searched) some)

pub line_end-end-requires-in-loop-self-clause-searched : goal.line_end-end-requires-in-loop-self-clause-searched
line_end-end-requires-in-loop-self-clause-searched g c =
    let came = c.in-More.ensures.filled in
    rw c.len-searched.ensures.held
    (searched_more is_lf c.loop-self.self came.0 c.fill.new.self came.2
    (position_or_len-none is_lf c.loop-self.self c.loop-self.end c.loop-self-test.ensures c.loop-self.invariant.searched))

pub loop-self-preserved : goal.loop-self-preserved
loop-self-preserved g c =
    let came = c.in-More.ensures.filled in
    let none : HasNoEnd c.loop-self.self = position_or_len-none is_lf c.loop-self.self c.loop-self.end c.loop-self-test.ensures c.loop-self.invariant.searched in
    record {
      room = c.in-More.ensures.room;
      searched = c.line_end-end-in-loop-self.ensures;
      all =
          ahead-taken c.loop-self.self came.0 c.fill.new.self (g.S.Source.left c.loop-self.source) (g.S.Source.left c.fill.new.source) came.2 came.3
          ∙ c.loop-self.invariant.all;
      grows = takes_more c.args.self.now c.loop-self.self came.0 c.fill.new.self c.loop-self.invariant.grows none came.2 came.4;
      unread = λ some. absurd (no_end_before c.args.self.now c.loop-self.self c.loop-self.invariant.grows none some);
      later = omega (arith, c.in-More.ensures.later, c.loop-self.invariant.later);
    }
