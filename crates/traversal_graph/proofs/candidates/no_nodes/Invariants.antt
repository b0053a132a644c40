use Rattle.std.proofs.Common.{◌≡◌, [], replicate}
use Rattle.traversal_graph.proofs.candidates.no_nodes.Given as goal

abbrev pub invariant-loop : goal.invariant-loop
invariant-loop l = l.all.items ≡ replicate l.counter []
