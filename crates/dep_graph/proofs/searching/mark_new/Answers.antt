-- A node that has its mark changes nothing; another gets its mark and waits.
use Rattle.std.proofs.lemmas.List.{take_more}
use Rattle.dep_graph.proofs.SearchLemmas.{MarksNew-skip, MarksNew-push}
use Rattle.dep_graph.proofs.searching.mark_new.Goals as goal
use Rattle.dep_graph.proofs.searching.mark_new.Goals.{then-not-as_slice-node+in_ok-push, else-not-as_slice-node}

pub loop-node-preserved : goal.loop-node-preserved
loop-node-preserved c =
    let lt = c.loop-node-test.true in
    rw (take_more c.args.nodes.now c.loop-node.node-index 0 lt)
    (elim c.if-not-as_slice-node.branch [
      | then-not-as_slice-node+in_ok-push w ↦
          rw (w.marks-is, w.pending-is, w.put.ensures, w.in_ok-push.ensures.items)
          (MarksNew-push _ _ _ _ _ _ c.loop-node.invariant
          (rw c.loop-node.invariant.size (c.requires c.loop-node.node-index 0 lt))
          (rw c.as_slice.ensures at w.if-not-as_slice-node.true))
      | else-not-as_slice-node w ↦
          rw (w.marks-is, w.pending-is)
          (MarksNew-skip _ _ _ _ _ _ c.loop-node.invariant (rw c.as_slice.ensures at w.if-not-as_slice-node.false))
    ])
