use Rattle.std.proofs.Common.{get_or, ◌<◌, ◌≤◌, ℕ}
use Rattle.step_relation.specs.Nexts.{IsIdle}
use Rattle.driver.proofs.next.first_from.Given as goal

abbrev pub invariant-loop-e : goal.invariant-loop-e
invariant-loop-e g l = (i : ℕ) → i < l.e-index → l.from ≤ get_or l.e-items i 0
    → IsIdle l.book.state (get_or l.e-items i 0)
