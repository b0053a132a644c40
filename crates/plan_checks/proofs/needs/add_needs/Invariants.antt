use Rattle.std.proofs.Common.{take}
use Rattle.plan_checks.specs.Needs.{AddsNeeds}
use Rattle.plan_checks.proofs.needs.add_needs.Given as goal

-- the edges of the first names are added
abbrev pub invariant-loop-need : goal.invariant-loop-need
invariant-loop-need l = AddsNeeds l.items (take l.need-index l.needs) l.after l.initial.graph l.graph
