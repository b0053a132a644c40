-- Each turn looks at one edge, and takes its other end if it is the node's.
use Rattle.std.proofs.Common.{ℕ, get_or, ap}
use Rattle.std.proofs.lemmas.List.{take_all}
use Rattle.traversal_graph.proofs.ListLemmas.{ListsAll-more, ListsAll-skip}
use Rattle.traversal_graph.proofs.shape.TravGraph.succs.Goals as goal
use Rattle.traversal_graph.proofs.shape.TravGraph.succs.Goals.{then-before-node+in_ok-put_in, else-before-node}

pub loop-before-preserved : goal.loop-before-preserved
loop-before-preserved c = elim c.if-before-node.branch [
  | then-before-node+in_ok-put_in w ↦ rw w.succs-is
      (ListsAll-more _ _ (λ (x : ℕ). (c.args.node, x)) (get_or c.as_slice-before-items.result.now c.loop-before.before-index (0, 0)).1 _ _ c.loop-before-test.true
      (λ y z e. ap (λ (p : ℕ × ℕ). p.1) e) (ap (λ (n : ℕ). (n, (get_or c.as_slice-before-items.result.now c.loop-before.before-index (0, 0)).1)) w.if-before-node.true) c.loop-before.invariant w.in_ok-put_in.ensures.ok)
  | else-before-node w ↦ rw w.succs-is
      (ListsAll-skip _ _ (λ (x : ℕ). (c.args.node, x)) _ c.loop-before-test.true
      (λ y e. w.if-before-node.false (ap (λ (p : ℕ × ℕ). p.0) e)) c.loop-before.invariant)
]

pub returns : goal.returns
returns c = rw (← c.as_slice-before-items.ensures)
    (rw (take_all c.loop-before.before-index c.as_slice-before-items.result.now c.loop-before-test.false) at c.loop-before.invariant)
