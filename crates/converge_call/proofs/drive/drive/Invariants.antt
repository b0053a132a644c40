use Rattle.std.proofs.Common.{◌≡◌, ◌≤◌, map, true}
use Rattle.std.specs.Prelude.{None, false}
use Rattle.report.specs.Seen.{seen_of}
use Rattle.report.specs.Text.{seen_after}
use Rattle.driver.specs.Kept.{opening_of}
use Rattle.driver.specs.Quiet.{page}
use Rattle.converge_call.specs.Carrying.{Carries}
use Rattle.converge_call.specs.Drives.{streams}
use Rattle.converge_call.specs.Stocks.{stock, first_stock}
use Rattle.converge_call.proofs.Driving.{SoFar}
use Rattle.converge_call.proofs.drive.drive.Given as goal

abbrev pub invariant-loop-number : goal.invariant-loop-number
invariant-loop-number g l = record {
  so : SoFar (streams (g.S.Source.left l.initial.source) (g.W.Sink.holds l.initial.sink))
      (opening_of g.P.Provider.cloud l.fn.book)
      (first_stock (map (λ j. j.kind) l.registry.judges) (map (λ t. t.test) l.registry.customs))
      (stock (map (λ t. t.test) l.registry.customs) l.catalog)
      (page l.book.state l.book.entries) l.reader.held (g.S.Source.left l.source)
      (g.W.Sink.holds l.sink) l.reader.given l.number;
  reads : g.S.Source.faults l.initial.source ≤ g.S.Source.faults l.source;
  writes : g.W.Sink.faults l.initial.sink ≤ g.W.Sink.faults l.sink;
  carried : Carries g.K.Keeper.shown g.P.Provider.cloud l.fn.book l.book;
  unhalted : l.book.halt ≡ None;
  short : (g.K.Keeper.shown l.book.keeper).is_long ≡ false;
  goes_on : l.reader.goes_on ≡ true;
  seen : l.reporter ≡ seen_after (seen_of l.book.opening) l.book.entries;
}
