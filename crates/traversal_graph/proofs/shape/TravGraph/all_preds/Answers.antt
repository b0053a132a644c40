-- Each turn tells one edge more.
use Rattle.std.proofs.lemmas.List.{take_all}
use Rattle.traversal_graph.proofs.NeighbourLemmas.{AreRising-replicate, AreRising-puts, ListsPreds-none, ListsPreds-more}
use Rattle.traversal_graph.proofs.shape.TravGraph.all_preds.Goals as goal

pub loop-before-init : goal.loop-before-init
loop-before-init c = rw (c.in_ok-all.ensures, c.len.ensures) (record { rising = AreRising-replicate _; lists = ListsPreds-none _ })

pub loop-before-preserved : goal.loop-before-preserved
loop-before-preserved c = record {
  rising = AreRising-puts _ _ _ _ c.loop-before.invariant.rising c.in_ok-put_pred.ensures;
  lists = ListsPreds-more _ _ _ _ _ c.loop-before-test.true c.loop-before.invariant.lists c.in_ok-put_pred.ensures;
}

pub returns : goal.returns
returns c = rw (← c.as_slice-before-items.ensures)
    (rw (take_all c.loop-before.before-index c.as_slice-before-items.result.now c.loop-before-test.false) at c.loop-before.invariant.lists)
