use Rattle.std.proofs.Common.{◌≡◌, ◌++◌, map, take}
use Rattle.dep_graph.specs.declared.leaving.Visit.TheVariants.{Enter}
use Rattle.dep_graph.proofs.leaving.add_visits.Given as goal

-- the nodes so far are to be visited
abbrev pub invariant-loop-node : goal.invariant-loop-node
invariant-loop-node l = l.visits.items ≡ l.fn.visits.items ++ map (λ node. Enter node) (take l.node-index l.nodes)
