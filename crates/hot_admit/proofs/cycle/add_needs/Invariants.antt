use Rattle.std.proofs.Common.{take}
use Rattle.hot_admit.specs.Cycles.{AddsNeeds}
use Rattle.hot_admit.proofs.cycle.add_needs.Given as goal

-- the edges of the first names are added
abbrev pub invariant-loop-need : goal.invariant-loop-need
invariant-loop-need l = AddsNeeds l.items (take l.need-index l.needs) l.after l.initial.graph l.graph
