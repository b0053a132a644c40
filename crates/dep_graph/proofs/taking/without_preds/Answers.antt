-- The nodes so far whose count is none are listed.
use Rattle.std.proofs.Common.{refl, arith}
use Rattle.dep_graph.proofs.CountLemmas.{ListsNone-start, ListsNone-more, ListsAll-none}
use Rattle.dep_graph.proofs.taking.without_preds.Goals as goal

pub loop-node-init : goal.loop-node-init
loop-node-init c = rw c.new-ready.ensures (ListsNone-start _)

pub loop-node-preserved : goal.loop-node-preserved
loop-node-preserved c =
    ListsNone-more _ _ _ _ _ c.loop-node.invariant
    (omega (arith, c.requires, c.size-node-end.ensures.size, c.loop-node-test.true))
    refl c.in_ok-put_ready.ensures.none c.in_ok-put_ready.ensures.some

pub returns : goal.returns
returns c = ListsAll-none _ _ _ c.loop-node.invariant
    (omega (arith, c.requires, c.size-node-end.ensures.size, c.loop-node-test.false))
