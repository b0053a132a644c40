-- Each turn looks at one edge, and takes its other end if it is the node's.
use Rattle.std.proofs.Common.{ℕ, get_or, ap}
use Rattle.std.proofs.lemmas.List.{take_all}
use Rattle.traversal_graph.proofs.ListLemmas.{ListsAll-more, ListsAll-skip}
use Rattle.traversal_graph.proofs.shape.TravGraph.preds.Goals as goal
use Rattle.traversal_graph.proofs.shape.TravGraph.preds.Goals.{then-after-node+in_ok-put_in, else-after-node}

pub loop-before-preserved : goal.loop-before-preserved
loop-before-preserved c = elim c.if-after-node.branch [
  | then-after-node+in_ok-put_in w ↦ rw w.preds-is
      (ListsAll-more _ _ (λ (x : ℕ). (x, c.args.node)) (get_or c.as_slice-before-items.result.now c.loop-before.before-index (0, 0)).0 _ _ c.loop-before-test.true
      (λ y z e. ap (λ (p : ℕ × ℕ). p.0) e) (ap (λ (n : ℕ). ((get_or c.as_slice-before-items.result.now c.loop-before.before-index (0, 0)).0, n)) w.if-after-node.true) c.loop-before.invariant w.in_ok-put_in.ensures.ok)
  | else-after-node w ↦ rw w.preds-is
      (ListsAll-skip _ _ (λ (x : ℕ). (x, c.args.node)) _ c.loop-before-test.true
      (λ y e. w.if-after-node.false (ap (λ (p : ℕ × ℕ). p.1) e)) c.loop-before.invariant)
]

pub returns : goal.returns
returns c = rw (← c.as_slice-before-items.ensures)
    (rw (take_all c.loop-before.before-index c.as_slice-before-items.result.now c.loop-before-test.false) at c.loop-before.invariant)
