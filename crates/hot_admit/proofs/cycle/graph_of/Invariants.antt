use Rattle.hot_admit.specs.Cycles.{HasNeeds}
use Rattle.hot_admit.proofs.cycle.graph_of.Given as goal

-- the first items have their edges
abbrev pub invariant-loop-place : goal.invariant-loop-place
invariant-loop-place l = HasNeeds l.items l.place l.graph
