-- Each turn adds the edges of one condition's names.
use Rattle.std.proofs.Common.{ℕ, refl, subst, arith}
use Rattle.heat_value.specs.Meaning.{members_of}
use Rattle.hot_admit.specs.Naming.{HasFirstNames}
use Rattle.hot_admit.proofs.Keyed.{keys_count}
use Rattle.hot_admit.proofs.NameGraphs.{first_none, first_more, all_names}
use Rattle.hot_admit.proofs.names.names_graph.Goals as goal

pub loop-place-init : goal.loop-place-init
loop-place-init c = first_none c.args.conds.now c.in_ok-graph.graph c.in_ok-graph.ensures.bare

pub add_names-requires-clause-size : goal.add_names-requires-clause-size
add_names-requires-clause-size c = c.loop-place.invariant.same

pub add_names-requires-clause-after : goal.add_names-requires-clause-after
add_names-requires-clause-after c =
    omega (arith, c.loop-place.invariant.same, keys_count c.args.conds.now, c.loop-place-test.true)

pub loop-place-preserved : goal.loop-place-preserved
loop-place-preserved c =
    first_more c.args.conds.now c.loop-place.place c.index-conds-place.result _ c.loop-place.graph c.add_names.new.graph
    c.requires c.loop-place-test.true c.index-conds-place.is c.loop-place.invariant
    (rw (c.as_slice.ensures.value, c.in_ok-add_read.ensures, c.new-names.ensures.items) refl) c.in_ok-add_names.ensures

pub returns : goal.returns
returns c =
    all_names c.args.conds.now c.loop-place.graph
    (subst (λ (n : ℕ). HasFirstNames (members_of c.args.conds.now) n c.loop-place.graph)
    (omega (arith, c.loop-place-test.false, c.loop-place.auto.place-end)) c.loop-place.invariant)
