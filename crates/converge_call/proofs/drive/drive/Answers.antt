-- The lines so far, and the next one.
use Rattle.std.proofs.Common.{◌∙◌, ◌≤◌, ◌+◌, List, [], refl, sym, ap, map, arith}
use Rattle.core_state.specs.State.{StateData}
use Rattle.core_state.specs.declared.entry.Entry.{Entry}
use Rattle.heat_io.specs.Reading.{Reader}
use Rattle.report.specs.Seen.{seen_of}
use Rattle.report.specs.Text.{seen_after}
use Rattle.driver.specs.Kept.{opening_of}
use Rattle.driver.specs.Quiet.{page}
use Rattle.driver.proofs.Leavings.{same_opening}
use Rattle.converge_call.specs.Drives.{line_end}
use Rattle.converge_call.specs.Stocks.{stock}
use Rattle.converge_call.proofs.Answering.{answered_as, never_done, never_read}
use Rattle.converge_call.proofs.Carrying.{carries_none, carries_then, recalls_same}
use Rattle.converge_call.proofs.Driving.{ends_at, ends_lacking, ends_long, ends_shortened, ends_unbegun, ends_unread}
use Rattle.converge_call.proofs.Driving.{ends_well, first_is, goes_on, starts, still_so}
use Rattle.converge_call.proofs.Sourcing.{all_read, lacking_read, limit_read, line_read, unended_read}
use Rattle.converge_call.proofs.Compacting.{shortened_entries, shortened_halt, shortened_never, shortened_opening}
use Rattle.converge_call.proofs.Compacting.{shortened_short, shortened_state}
use Rattle.converge_call.proofs.drive.drive.Goals as goal

pub loop-number-init : goal.loop-number-init
loop-number-init g c = record {
  so = starts _ (opening_of g.P.Provider.cloud c.args.book.now) _ _ _ c.new-reader.result.held
      c.new-reader.result.given
      (shortened_state g.K.Keeper.shown _ _ _ c.shorten.ensures.shortens ∙ c.requires.opened)
      (shortened_entries g.K.Keeper.shown _ _ _ c.shorten.ensures.shortens ∙ c.requires.fresh)
      (first_is _ _ _ c.in-Ok-new.ensures.registered c.in-Ok-new.ensures.given)
      (ap (λ (r : Reader). r.held) c.new-reader.ensures)
      (ap (λ (r : Reader). r.given) c.new-reader.ensures);
  reads = omega arith;
  writes = omega arith;
  carried = c.shorten.ensures.carries;
  unhalted = shortened_halt g.K.Keeper.shown _ _ _ c.shorten.ensures.shortens c.in-Ok-shorten.is ∙ c.requires.unhalted;
  short = shortened_short g.K.Keeper.shown _ _ _ c.shorten.ensures.shortens c.in-Ok-shorten.is;
  goes_on = ap (λ (r : Reader). r.goes_on) c.new-reader.ensures;
  seen = c.in-Ok.ensures ∙ ap (λ (s : StateData). seen_of s) c.opening.ensures
      ∙ ap (λ (s : StateData). seen_of s)
      (sym (shortened_opening g.K.Keeper.shown _ _ _ c.shorten.ensures.shortens))
      ∙ ap (λ (h : List Entry). seen_after (seen_of c.shorten.new.book.opening) h)
      (sym (shortened_entries g.K.Keeper.shown _ _ _ c.shorten.ensures.shortens ∙ c.requires.fresh));
}

pub loop-number-preserved : goal.loop-number-preserved
loop-number-preserved g c = record {
  so = still_so _ _ _ _ (page c.answer.new.book.state c.answer.new.book.entries) _ _ _ _ _ _
      (shortened_state g.K.Keeper.shown _ _ _ c.shorten-in-loop-number.ensures.shortens)
      (shortened_entries g.K.Keeper.shown _ _ _ c.shorten-in-loop-number.ensures.shortens)
      (goes_on _ _ _ _ _ _ _ _ _ _ _ c.loop-number.invariant.so _ _ c.next.new.self.given c.in-Line.line
      (stock (map (λ t. t.test) c.args.registry.now.customs) c.answer.new.catalog) _
      (line_end (g.P.Provider.cloud c.answer.new.book.cloud) c.answer.new.book.halt) _ _
      (line_read _ _ _ _ _ c.loop-number.invariant.so.at _ c.in-Line.ensures.seen.0 _ _ c.in-Line.line
      c.in-Line.ensures.told c.in-Line.ensures.seen.1 c.in-Line.ensures.seen.2 (c.in-Line.ensures.behind c.in-Line.line refl))
      c.in-Line.ensures.seen.1.rises c.in-Line.ensures.seen.1.within
      (answered_as _ _ c.in-Line.line _ _ _ _ _ _ _ _ _ _ _ c.as_slice.ensures
      (same_opening g.P.Provider.cloud _ _ c.loop-number.invariant.carried.same)
      (recalls_same g.K.Keeper.shown _ _ c.loop-number.invariant.carried.same) c.answer.ensures.answered)
      c.in-Ok-answer.is (rw c.as_slice.ensures at c.in-Ok-answer.ensures.kinds) refl);
  reads = omega (arith, c.loop-number.invariant.reads, c.next.ensures.later);
  writes = omega (arith, c.loop-number.invariant.writes, c.answer.ensures.later);
  carried = carries_then g.K.Keeper.shown g.P.Provider.cloud _ _ _ (λ goes. c.in-Ok-answer.ensures.unhalted)
      (carries_then g.K.Keeper.shown g.P.Provider.cloud _ _ _ (λ goes. c.loop-number.invariant.unhalted)
      c.loop-number.invariant.carried c.answer.ensures.carries) c.shorten-in-loop-number.ensures.carries;
  unhalted = shortened_halt g.K.Keeper.shown _ _ _ c.shorten-in-loop-number.ensures.shortens c.in-Ok-shorten-2.is
      ∙ c.in-Ok-answer.ensures.unhalted;
  short = shortened_short g.K.Keeper.shown _ _ _ c.shorten-in-loop-number.ensures.shortens c.in-Ok-shorten-2.is;
  goes_on = c.in-Line.ensures.goes_on;
  seen = c.in-Ok-answer.ensures.seen
      ∙ ap (λ (s : StateData). seen_after (seen_of s) c.answer.new.book.entries)
      (sym (shortened_opening g.K.Keeper.shown _ _ _ c.shorten-in-loop-number.ensures.shortens))
      ∙ ap (λ (h : List Entry). seen_after (seen_of c.shorten-in-loop-number.new.book.opening) h)
      (sym (shortened_entries g.K.Keeper.shown _ _ _ c.shorten-in-loop-number.ensures.shortens));
}

pub shorten-requires : goal.shorten-requires
shorten-requires g c = c.requires.unhalted

pub answer-requires : goal.answer-requires
answer-requires g c = record { seen = c.loop-number.invariant.seen; unhalted = c.loop-number.invariant.unhalted }

pub shorten-requires-in-loop-number : goal.shorten-requires-in-loop-number
shorten-requires-in-loop-number g c = c.in-Ok-answer.ensures.unhalted

-- before the first line
pub returns-in_default-clause-drove : goal.returns-in_default-clause-drove
returns-in_default-clause-drove g c =
    ends_unbegun _ _ _ _ (page c.args.book.now.state c.args.book.now.entries) _
    c.requires.opened c.requires.fresh c.requires.unhalted

pub returns-in_default-clause-carries : goal.returns-in_default-clause-carries
returns-in_default-clause-carries g c = carries_none g.K.Keeper.shown g.P.Provider.cloud _

pub returns-in_default-new-clause-drove : goal.returns-in_default-new-clause-drove
returns-in_default-new-clause-drove g c =
    ends_unbegun _ _ _ _ (page c.args.book.now.state c.args.book.now.entries) _
    c.requires.opened c.requires.fresh c.requires.unhalted

pub returns-in_default-new-clause-carries : goal.returns-in_default-new-clause-carries
returns-in_default-new-clause-carries g c = carries_none g.K.Keeper.shown g.P.Provider.cloud _

-- the first compaction
pub returns-in-Err-clause-drove : goal.returns-in-Err-clause-drove
returns-in-Err-clause-drove g c =
    ends_shortened g.K.Keeper.shown _ (opening_of g.P.Provider.cloud c.args.book.now) _ _ _
    c.args.book.now _ [] _ _ 0 1 _ c.in-Err.exit
    (starts _ (opening_of g.P.Provider.cloud c.args.book.now) _ _
    (page c.args.book.now.state c.args.book.now.entries) [] 0 c.requires.opened c.requires.fresh refl refl refl)
    c.requires.unhalted refl c.in-Err.ensures.shortens

pub returns-in-Err-clause-read : goal.returns-in-Err-clause-read
returns-in-Err-clause-read g c is =
    absurd (shortened_never g.K.Keeper.shown _ _ c.in-Err.exit _ c.in-Err.ensures.shortens is (λ e. cc) (λ e. cc))

pub returns-in-Err-clause-write : goal.returns-in-Err-clause-write
returns-in-Err-clause-write g c is =
    absurd (shortened_never g.K.Keeper.shown _ _ c.in-Err.exit _ c.in-Err.ensures.shortens is (λ e. cc) (λ e. cc))

pub returns-in-Err-clause-short : goal.returns-in-Err-clause-short
returns-in-Err-clause-short g c is =
    absurd (shortened_never g.K.Keeper.shown _ _ c.in-Err.exit _ c.in-Err.ensures.shortens is (λ e. cc) (λ e. cc))

pub returns-in-Err-clause-carries : goal.returns-in-Err-clause-carries
returns-in-Err-clause-carries g c = c.shorten.ensures.carries

-- the source
pub returns-in-End-clause-drove : goal.returns-in-End-clause-drove
returns-in-End-clause-drove g c = ends_well _ _ _ _ _ _ _ _ _ _ _ c.loop-number.invariant.so
    (g.S.Source.left c.next.new.source) _
    (all_read _ _ _ _ _ c.loop-number.invariant.so.at _ c.in-End.ensures.seen.0 _ _ c.in-End.ensures.told
    c.in-End.ensures.seen.1) c.loop-number.invariant.unhalted

pub returns-in-End-clause-short : goal.returns-in-End-clause-short
returns-in-End-clause-short g c is = c.loop-number.invariant.short

pub returns-in-End-clause-carries : goal.returns-in-End-clause-carries
returns-in-End-clause-carries g c = c.loop-number.invariant.carried

pub returns-in-LineTooLong-clause-drove : goal.returns-in-LineTooLong-clause-drove
returns-in-LineTooLong-clause-drove g c = ends_long _ _ _ _ _ _ _ _ _ _ _ c.loop-number.invariant.so
    (g.S.Source.left c.next.new.source) _
    (limit_read _ _ _ _ _ c.loop-number.invariant.so.at _ c.next.ensures.seen.0 _ _ c.next.result c.in-LineTooLong.is
    c.next.ensures.told c.next.ensures.seen.1) c.loop-number.invariant.unhalted

pub returns-in-LineTooLong-clause-carries : goal.returns-in-LineTooLong-clause-carries
returns-in-LineTooLong-clause-carries g c = c.loop-number.invariant.carried

pub returns-in-ReadFault-clause-drove : goal.returns-in-ReadFault-clause-drove
returns-in-ReadFault-clause-drove g c = ends_unread _ _ _ _ _ _ _ _ _ _ _ c.loop-number.invariant.so
    (g.S.Source.left c.next.new.source) _
    (unended_read _ _ _ _ _ c.loop-number.invariant.so.at _ c.in-ReadFault.ensures.seen.0 _ _
    c.in-ReadFault.ensures.told c.in-ReadFault.ensures.seen.1 (c.in-ReadFault.ensures.unended refl))
    c.loop-number.invariant.unhalted

pub returns-in-ReadFault-clause-carries : goal.returns-in-ReadFault-clause-carries
returns-in-ReadFault-clause-carries g c = c.loop-number.invariant.carried

pub returns-in-Memory-clause-drove : goal.returns-in-Memory-clause-drove
returns-in-Memory-clause-drove g c = ends_lacking _ _ _ _ _ _ _ _ _ _ _ c.loop-number.invariant.so
    (g.S.Source.left c.next.new.source) _
    (lacking_read _ _ _ _ _ c.loop-number.invariant.so.at _ c.in-Memory.ensures.seen.0 _ _ c.in-Memory.ensures.told
    c.in-Memory.ensures.seen.1) c.loop-number.invariant.unhalted

pub returns-in-Memory-clause-carries : goal.returns-in-Memory-clause-carries
returns-in-Memory-clause-carries g c = c.loop-number.invariant.carried

-- a line
pub returns-in-Err-answer-clause-drove : goal.returns-in-Err-answer-clause-drove
returns-in-Err-answer-clause-drove g c = ends_at _ _ _ _ _ _ _ _ _ _ _ c.loop-number.invariant.so _ _
    c.next.new.self.given c.in-Line.line _ _ _ _ c.in-Err-answer.exit
    (line_read _ _ _ _ _ c.loop-number.invariant.so.at _ c.in-Line.ensures.seen.0 _ _ c.in-Line.line
    c.in-Line.ensures.told c.in-Line.ensures.seen.1 c.in-Line.ensures.seen.2 (c.in-Line.ensures.behind c.in-Line.line refl))
    (answered_as _ _ c.in-Line.line _ _ _ _ _ _ _ _ _ _ _ c.as_slice.ensures
    (same_opening g.P.Provider.cloud _ _ c.loop-number.invariant.carried.same)
    (recalls_same g.K.Keeper.shown _ _ c.loop-number.invariant.carried.same) c.answer.ensures.answered)
    c.in-Err-answer.is

pub returns-in-Err-answer-clause-read : goal.returns-in-Err-answer-clause-read
returns-in-Err-answer-clause-read g c is =
    absurd (never_read _ _ _ _ _ _ _ _ _ _ c.answer.result c.in-Err-answer.exit c.answer.ensures.answered
    c.in-Err-answer.is is)

pub returns-in-Err-answer-clause-short : goal.returns-in-Err-answer-clause-short
returns-in-Err-answer-clause-short g c is =
    absurd (never_done _ _ _ _ _ _ _ _ _ _ c.answer.result c.in-Err-answer.exit c.answer.ensures.answered
    c.in-Err-answer.is is)

pub returns-in-Err-answer-clause-carries : goal.returns-in-Err-answer-clause-carries
returns-in-Err-answer-clause-carries g c =
    carries_then g.K.Keeper.shown g.P.Provider.cloud _ _ _ (λ goes. c.loop-number.invariant.unhalted)
    c.loop-number.invariant.carried c.answer.ensures.carries

-- the compaction behind a line
pub returns-in-Err-shorten-clause-drove : goal.returns-in-Err-shorten-clause-drove
returns-in-Err-shorten-clause-drove g c =
    ends_shortened g.K.Keeper.shown _ _ _
    (stock (map (λ t. t.test) c.args.registry.now.customs) c.answer.new.catalog) _ c.answer.new.book _ _ _ _
    c.next.new.self.given (c.loop-number.number + 1) _ c.in-Err-shorten.exit
    (goes_on _ _ _ _ _ _ _ _ _ _ _ c.loop-number.invariant.so _ _ c.next.new.self.given c.in-Line.line
    (stock (map (λ t. t.test) c.args.registry.now.customs) c.answer.new.catalog) _
    (line_end (g.P.Provider.cloud c.answer.new.book.cloud) c.answer.new.book.halt) _ _
    (line_read _ _ _ _ _ c.loop-number.invariant.so.at _ c.in-Line.ensures.seen.0 _ _ c.in-Line.line
    c.in-Line.ensures.told c.in-Line.ensures.seen.1 c.in-Line.ensures.seen.2 (c.in-Line.ensures.behind c.in-Line.line refl))
    c.in-Line.ensures.seen.1.rises c.in-Line.ensures.seen.1.within
    (answered_as _ _ c.in-Line.line _ _ _ _ _ _ _ _ _ _ _ c.as_slice.ensures
    (same_opening g.P.Provider.cloud _ _ c.loop-number.invariant.carried.same)
    (recalls_same g.K.Keeper.shown _ _ c.loop-number.invariant.carried.same) c.answer.ensures.answered)
    c.in-Ok-answer.is (rw c.as_slice.ensures at c.in-Ok-answer.ensures.kinds) refl)
    c.in-Ok-answer.ensures.unhalted refl c.in-Err-shorten.ensures.shortens

pub returns-in-Err-shorten-clause-read : goal.returns-in-Err-shorten-clause-read
returns-in-Err-shorten-clause-read g c is = absurd (shortened_never g.K.Keeper.shown _ _ c.in-Err-shorten.exit _
    c.in-Err-shorten.ensures.shortens is (λ e. cc) (λ e. cc))

pub returns-in-Err-shorten-clause-write : goal.returns-in-Err-shorten-clause-write
returns-in-Err-shorten-clause-write g c is = absurd (shortened_never g.K.Keeper.shown _ _ c.in-Err-shorten.exit _
    c.in-Err-shorten.ensures.shortens is (λ e. cc) (λ e. cc))

pub returns-in-Err-shorten-clause-short : goal.returns-in-Err-shorten-clause-short
returns-in-Err-shorten-clause-short g c is = absurd (shortened_never g.K.Keeper.shown _ _ c.in-Err-shorten.exit _
    c.in-Err-shorten.ensures.shortens is (λ e. cc) (λ e. cc))

pub returns-in-Err-shorten-clause-carries : goal.returns-in-Err-shorten-clause-carries
returns-in-Err-shorten-clause-carries g c =
    carries_then g.K.Keeper.shown g.P.Provider.cloud _ _ _ (λ goes. c.in-Ok-answer.ensures.unhalted)
    (carries_then g.K.Keeper.shown g.P.Provider.cloud _ _ _ (λ goes. c.loop-number.invariant.unhalted)
    c.loop-number.invariant.carried c.answer.ensures.carries) c.shorten-in-loop-number.ensures.carries

pub unreachable-requires : goal.unreachable-requires
unreachable-requires g c =
    let so = c.loop-number.invariant.so in
    let count = so.count in
    let few = so.few in
    let within : c.loop-number.reader.given ≤ 268435456 = so.within in
    let ended = c.loop-number-test.false in
    omega (arith, count, few, within, ended)
