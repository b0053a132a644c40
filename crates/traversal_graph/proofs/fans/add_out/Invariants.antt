use Rattle.std.proofs.Common.{◌≡◌, ◌++◌, take}
use Rattle.traversal_graph.specs.Candidates.{edges_out}
use Rattle.traversal_graph.proofs.fans.add_out.Given as goal

abbrev pub invariant-loop-after : goal.invariant-loop-after
invariant-loop-after l = l.edges ≡ l.initial.edges ++ edges_out l.before (take l.after-index l.afters)
