-- Each turn considers one node more.
use Rattle.std.proofs.Common.{sym, ◌∙◌}
use Rattle.traversal_graph.proofs.DrawLemmas.{Draws-none}
use Rattle.traversal_graph.proofs.EachLemmas.{Draws-in}
use Rattle.traversal_graph.proofs.drawing.draw_each_in.Goals as goal

pub loop-before-init : goal.loop-before-init
loop-before-init c = record {
  draws = Draws-none _ c.requires.draft;
  size = c.requires.size;
  reached = c.requires.reached;
}

pub loop-before-preserved : goal.loop-before-preserved
loop-before-preserved c = record {
  draws = Draws-in _ _ _ _ _ _ c.loop-before-test.true c.loop-before.invariant.draws c.in_ok-draw_into.ensures.draws;
  size = c.loop-before.invariant.size ∙ sym c.in_ok-draw_into.ensures.draws.size;
  reached = c.in_ok-draw_into.ensures.reached;
}
