-- Each turn adds the fan of one row more.
use Rattle.std.proofs.Common.{arith}
use Rattle.traversal_graph.proofs.FanLemmas.{Adds-fan, Adds-more, Adds-none}
use Rattle.traversal_graph.proofs.candidates.add_requires.Goals as goal

pub loop-r-init : goal.loop-r-init
loop-r-init c = Adds-none _ _

pub loop-r-preserved : goal.loop-r-preserved
loop-r-preserved c =
    Adds-more _ _ _ c.index-rows-r.result _ _ _ _ c.loop-r-test.true c.index-rows-r.is c.loop-r.invariant
    (Adds-fan _ _ _ _ _ c.in_ok-push.ensures.ok (c.in_ok-required.ensures.exact c.loop-r.r)
    (omega (arith, c.loop-r-test.true), c.in_ok-required.ensures.within))
