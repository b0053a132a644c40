-- Each turn puts in the nodes of one number more.
use Rattle.traversal_graph.proofs.NumberLemmas.{numbered_none, numbered_more}
use Rattle.traversal_graph.proofs.numbered.nodes_of.Goals as goal

pub loop-number-init : goal.loop-number-init
loop-number-init c = rw c.new-nodes.ensures (numbered_none _ _)

pub loop-number-preserved : goal.loop-number-preserved
loop-number-preserved c =
    numbered_more _ _ _ _ c.number-item.result _ _ c.loop-number-test.true c.number-item.is c.loop-number.invariant c.in_ok-put_rows.ensures
