use Rattle.std.proofs.Common.{◌≡◌, [], replicate}
use Rattle.traversal_graph.proofs.lists.empty_lists.Given as goal

abbrev pub invariant-loop : goal.invariant-loop
invariant-loop l = l.all ≡ replicate l.counter []
