use Rattle.plan_checks.specs.Needs.{HasNeeds}
use Rattle.plan_checks.proofs.needs.graph_of.Given as goal

-- the first items have their edges
abbrev pub invariant-loop-place : goal.invariant-loop-place
invariant-loop-place l = HasNeeds l.items l.place l.graph
