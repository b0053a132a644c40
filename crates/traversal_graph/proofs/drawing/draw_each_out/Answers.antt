-- Each turn considers one node more.
use Rattle.traversal_graph.proofs.DrawLemmas.{Draws-none}
use Rattle.traversal_graph.proofs.EachLemmas.{Draws-out}
use Rattle.traversal_graph.proofs.drawing.draw_each_out.Goals as goal

pub loop-after-init : goal.loop-after-init
loop-after-init c = record {
  draws = Draws-none _ c.requires.draft;
  reaching = c.requires.reaching;
}

pub loop-after-preserved : goal.loop-after-preserved
loop-after-preserved c = record {
  draws = Draws-out _ _ _ _ _ _ c.loop-after-test.true c.loop-after.invariant.draws c.in_ok-draw_from.ensures.draws;
  reaching = λ node in'.
      let was = c.loop-after.invariant.reaching node in' in
      let same = c.in_ok-draw_from.ensures.same node in
      ((λ m. same.0 (was.0 m)), (λ h. was.1 (same.1 h)));
}
