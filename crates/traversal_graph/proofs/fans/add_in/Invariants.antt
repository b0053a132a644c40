use Rattle.std.proofs.Common.{◌≡◌, ◌++◌, take}
use Rattle.traversal_graph.specs.Candidates.{edges_in}
use Rattle.traversal_graph.proofs.fans.add_in.Given as goal

abbrev pub invariant-loop-before : goal.invariant-loop-before
invariant-loop-before l = l.edges ≡ l.initial.edges ++ edges_in (take l.before-index l.befores) l.after
