-- Each turn adds the fan of one item more.
use Rattle.std.proofs.Common.{arith}
use Rattle.traversal_graph.proofs.EachLemmas.{below_later}
use Rattle.traversal_graph.proofs.FanLemmas.{Adds-all, Adds-fan, Adds-more, Adds-none}
use Rattle.traversal_graph.proofs.candidates.add_needs.Goals as goal

pub loop-place-init : goal.loop-place-init
loop-place-init c size le = Adds-none _ _

pub loop-place-preserved : goal.loop-place-preserved
loop-place-preserved c size le =
    Adds-more size _ _ c.index-items-place.result _ _ _ _ c.loop-place-test.true c.index-items-place.is (c.loop-place.invariant size le)
    (Adds-fan size _ _ _ _ c.in_ok-push.ensures.ok (c.in_ok-needed.ensures.exact c.loop-place.place)
    (below_later _ _ _ le c.in_ok-needed.ensures.within, omega (arith, c.loop-place-test.true)))

pub returns : goal.returns
returns c size le = Adds-all size _ _ _ _ _ c.loop-place-test.false (c.loop-place.invariant size le)
