-- An order of the graph is one of the conditions; where there is none the least node on a loop is the one that is told.
use Rattle.std.proofs.Common.{◌∙◌, sym, ap, arith}
use Rattle.heat_value.specs.Meaning.{members_of}
use Rattle.heat_value.specs.declared.value.Member.{Member}
use Rattle.hot_admit.specs.Conds.{condition_path}
use Rattle.hot_admit.proofs.Keyed.{keys_count}
use Rattle.hot_admit.proofs.NameGraphs.{key_at}
use Rattle.hot_admit.proofs.NameLoops.{order_of_names, acyclic_graph, least_of_loops}
use Rattle.hot_admit.proofs.condition_values.order_of.Goals as goal

pub returns-in-Order-clause-ok : goal.returns-in-Order-clause-ok
returns-in-Order-clause-ok c =
    order_of_names (members_of c.args.conds.now) c.in_ok-graph.graph c.in-Order.order c.in_ok-graph.ensures
    (rw c.in-Order.is at c.in_ok-order.ensures)

pub bounds-conds-place : goal.bounds-conds-place
bounds-conds-place c =
    omega (
      arith,
      (rw c.in-Some.is at c.in_ok-place-in-Cycle.ensures).0,
      c.in_ok-graph.ensures.same,
      keys_count c.args.conds.now,
    )

pub returns-in-Some-clause-fault : goal.returns-in-Some-clause-fault
returns-in-Some-clause-fault c =
    let least = rw c.in-Some.is at c.in_ok-place-in-Cycle.ensures in (
      c.index-conds-place.result.key,
      least_of_loops c.args.conds.now c.in_ok-graph.graph c.in-Some.place c.index-conds-place.result.key c.requires
          c.in_ok-graph.ensures
          (key_at c.args.conds.now c.in-Some.place c.index-conds-place.result
          (omega (arith, least.0, c.in_ok-graph.ensures.same, keys_count c.args.conds.now)) c.index-conds-place.is)
          least.1,
      c.in_ok-condition_path-in-Some.ensures
          ∙ ap (λ (m : Member). condition_path m.key) (sym c.index-conds-place.is),
    )

pub unreachable-requires : goal.unreachable-requires
unreachable-requires c =
    (rw c.in-Cycle.is at c.in_ok-order.ensures).closed
    (acyclic_graph c.in_ok-graph.graph (rw c.in-None.is at c.in_ok-place-in-Cycle.ensures))
