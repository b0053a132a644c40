-- Each turn considers the edges of one fan more.
use Rattle.traversal_graph.proofs.DrawLemmas.{Draws-none, Draws-append}
use Rattle.traversal_graph.proofs.FanLemmas.{all_edges-more}
use Rattle.traversal_graph.proofs.drawing.draw_all.Goals as goal

pub loop-fan-init : goal.loop-fan-init
loop-fan-init c = Draws-none _ c.requires.draft

pub loop-fan-preserved : goal.loop-fan-preserved
loop-fan-preserved c =
    rw (all_edges-more c.args.fans.now c.loop-fan.fan-index c.fan-item.result c.loop-fan-test.true c.fan-item.is)
    (Draws-append _ _ _ _ _ c.loop-fan.invariant c.in_ok-draw_fan.ensures)
