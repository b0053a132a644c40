use Rattle.std.proofs.Common.{◌≡◌, length}
use Rattle.report.specs.Undone.{shown, unwound, CanUnwind}
use Rattle.report.proofs.seen.Seen.unwind.Given as goal

-- what is left leads back to the same
abbrev pub invariant-loop-was : goal.invariant-loop-was
invariant-loop-was l = record {
  same : unwound l.log.items (shown l.self) ≡ unwound l.initial.log.items (shown l.initial.self);
  back : CanUnwind l.log l.self;
}

abbrev pub decreases-loop-was : goal.decreases-loop-was
decreases-loop-was l = length l.log.items
