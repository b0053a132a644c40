use Rattle.std.proofs.Common.{◌<◌, ◌^◌, ◌≡◌, ◌≤◌}
use Rattle.std.specs.Prelude.{None}
use Rattle.book.specs.Kept.{IsSameBook, IsSoundOpening}
use Rattle.book.specs.Quiet.{page}
use Rattle.driver.specs.Leaving.{LeavesAlong}
use Rattle.driver.proofs.Spending.{Spent}
use Rattle.driver.proofs.Turning.{SoFar}
use Rattle.driver.proofs.rounds.turns.Given as goal

abbrev pub invariant-loop-made : goal.invariant-loop-made
invariant-loop-made g l = record {
  so : SoFar (page l.initial.book.state l.initial.book.entries) (page l.book.state l.book.entries) l.made l.last;
  spent : IsSoundOpening g.P.Provider.cloud l.initial.book → Spent l.initial.book.state
      (g.P.Provider.cloud l.initial.book.cloud) l.made l.book.state (g.P.Provider.cloud l.book.cloud);
  live : l.book.state.live ≡ l.initial.book.state.live;
  same : IsSameBook l.initial.book l.book;
  halt : l.book.halt ≡ l.initial.book.halt;
  faults : g.K.Keeper.faults l.initial.book.keeper ≤ g.K.Keeper.faults l.book.keeper;
  number : l.last < 2 ^ 62;
  leaves : l.initial.book.halt ≡ None
      → LeavesAlong g.K.Keeper.shown g.P.Provider.cloud l.initial.book l.book;
}
