use Rattle.heat_value.specs.Meaning.{members_of}
use Rattle.hot_admit.specs.Naming.{HasFirstNames}
use Rattle.hot_admit.proofs.names.names_graph.Given as goal

-- the first conditions have their edges
abbrev pub invariant-loop-place : goal.invariant-loop-place
invariant-loop-place l = HasFirstNames (members_of l.conds) l.place l.graph
