-- Each turn adds the edges of one item's needs.
use Rattle.std.proofs.Common.{All, Contains, sym, subst}
use Rattle.heat_plan.specs.Plans.{names_of}
use Rattle.heat_plan.specs.declared.item.Item.{Item}
use Rattle.plan_checks.proofs.Edges.{has_none, has_more}
use Rattle.plan_checks.proofs.needs.graph_of.Goals as goal

pub loop-place-init : goal.loop-place-init
loop-place-init c = has_none c.args.items.now c.in_ok-graph.graph c.in_ok-graph.ensures.bare

pub add_needs-requires-clause-met : goal.add_needs-requires-clause-met
add_needs-requires-clause-met c =
    rw c.as_slice.ensures.value
    (subst (λ (i : Item). All (Contains (names_of c.args.items.now)) i.needs) (sym c.index-items-place.is)
    (c.requires.met c.loop-place.place c.index-items-place.result c.loop-place-test.true))

pub loop-place-preserved : goal.loop-place-preserved
loop-place-preserved c =
    has_more c.args.items.now c.loop-place.place c.index-items-place.result c.loop-place.graph c.add_needs.new.graph
    c.loop-place-test.true
    c.index-items-place.is c.loop-place.invariant (rw c.as_slice.ensures.value at c.in_ok-add_needs.ensures)
