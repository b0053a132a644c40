use Rattle.std.proofs.Common.{◌≡◌, take}
use Rattle.traversal_graph.specs.Fans.{all_edges}
use Rattle.traversal_graph.proofs.fans.all_edges.Given as goal

abbrev pub invariant-loop-fan : goal.invariant-loop-fan
invariant-loop-fan l = l.edges ≡ all_edges (take l.fan-index l.fans)
