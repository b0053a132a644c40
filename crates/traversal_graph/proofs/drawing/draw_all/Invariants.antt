use Rattle.std.proofs.Common.{take}
use Rattle.traversal_graph.specs.Drafts.{Draws}
use Rattle.traversal_graph.specs.Fans.{all_edges}
use Rattle.traversal_graph.proofs.drawing.draw_all.Given as goal

abbrev pub invariant-loop-fan : goal.invariant-loop-fan
invariant-loop-fan l = Draws (all_edges (take l.fan-index l.fans)) l.initial.draft l.draft
