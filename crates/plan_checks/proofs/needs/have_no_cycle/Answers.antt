use Rattle.std.proofs.Common.{refl}
use Rattle.plan_checks.proofs.Orders.{ordered, cyclic}
use Rattle.plan_checks.proofs.needs.have_no_cycle.Goals as goal

pub returns-in-Order : goal.returns-in-Order
returns-in-Order c =
    let none = ordered c.args.items.now c.in_ok-graph.graph c.in-Order.field-0 c.requires.met c.in_ok-graph.ensures
    (rw c.in-Order.is at c.in_ok-order.ensures) in
    (λ _. none, λ _. refl)

pub returns : goal.returns
returns c = (
  λ f. cc,
  λ none. absurd (cyclic c.args.items.now c.in_ok-graph.graph c.in-Cycle.field-0 c.requires.rising c.in_ok-graph.ensures
      (rw c.in-Cycle.is at c.in_ok-order.ensures) none),
)
