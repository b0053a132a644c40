use Rattle.std.proofs.Common.{◌≡◌, ◌≤◌, ◌-◌, ◌++◌, List, ℕ, length}
use Rattle.std.specs.List.{position}
use Rattle.heat_io.specs.Streams.{ahead}
use Rattle.heat_io.specs.Lines.{is_lf, most_held}
use Rattle.heat_io.specs.Reading.{HasEnd, StopsAtEnd}
use Rattle.heat_io.proofs.held.HeldBytes.find.Given as goal

-- all that is held was searched, and nothing is lost
abbrev pub invariant-loop-self : goal.invariant-loop-self
invariant-loop-self g l = record {
  room : length l.self ≤ most_held;
  searched : l.end ≡ position is_lf l.self;
  all : ahead l.self (g.S.Source.left l.source) ≡ ahead l.initial.self (g.S.Source.left l.initial.source);
  grows : (taken : List ℕ) × (l.self ≡ l.initial.self ++ taken) × StopsAtEnd l.initial.self taken;
  unread : HasEnd l.initial.self → l.source ≡ l.initial.source;
  later : g.S.Source.faults l.initial.source ≤ g.S.Source.faults l.source;
}

abbrev pub decreases-loop-self : goal.decreases-loop-self
decreases-loop-self g l = 1048577 - length l.self
