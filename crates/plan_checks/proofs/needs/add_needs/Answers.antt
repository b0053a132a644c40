-- Each turn adds the edge of one need, from the place of the item that it names.
use Rattle.std.proofs.Common.{Contains, sym, subst, arith}
use Rattle.heat_plan.specs.Plans.{names_of}
use Rattle.plan_checks.proofs.Places.{named_within}
use Rattle.plan_checks.proofs.Edges.{adds_more}
use Rattle.plan_checks.proofs.needs.add_needs.Goals as goal

pub place_of-requires-clause-met : goal.place_of-requires-clause-met
place_of-requires-clause-met c =
    subst (Contains (names_of c.args.items.now)) (sym c.need-item.is)
    (c.requires.met c.loop-need.need-index c.need-item.result c.loop-need-test.true)

pub overflow_cast-place_of : goal.overflow_cast-place_of
overflow_cast-place_of c =
    omega (arith, named_within c.args.items.now _ c.place_of.result c.place_of.ensures, c.requires.few)

pub add_edge-requires-clause-before : goal.add_edge-requires-clause-before
add_edge-requires-clause-before c =
    omega (
      arith,
      named_within c.args.items.now _ c.place_of.result c.place_of.ensures,
      c.loop-need.invariant.same,
      c.requires.size,
    )

pub loop-need-preserved : goal.loop-need-preserved
loop-need-preserved c =
    adds_more c.args.items.now c.args.needs.now c.loop-need.need-index c.need-item.result c.args.after c.place_of.result
    c.args.graph.now
    c.loop-need.graph c.add_edge.new.self c.requires.rising c.loop-need-test.true c.need-item.is c.loop-need.invariant
    c.place_of.ensures
    c.in_ok-add_edge.ensures.ok
