-- An order stands where no cycle does.
use Rattle.std.proofs.Common.{refl}
use Rattle.std.proofs.lemmas.Bool.{false≢true}
use Rattle.traversal_graph.proofs.ClosingLemmas.{acyclic-edges, acyclic-joins}
use Rattle.traversal_graph.proofs.closing.are_acyclic.Goals as goal

pub returns-in-Order : goal.returns-in-Order
returns-in-Order c =
    let found = rw c.in-Order.is at c.in_ok-order.ensures in
    (λ _. acyclic-joins _ _ c.in_ok-graph.ensures found.acyclic, λ _. refl)

pub returns : goal.returns
returns c =
    let found = rw c.in-Cycle.is at c.in_ok-order.ensures in
    (λ e. absurd (false≢true e), λ h. absurd (found.closed (acyclic-edges _ _ c.in_ok-graph.ensures h)))
