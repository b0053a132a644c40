use Rattle.std.proofs.Common.{get_or, ◌<◌, ◌≡◌, ℕ}
use Rattle.core_state.specs.Reads.{HasInput}
use Rattle.driver.proofs.nodes.is_ready.Given as goal

abbrev pub invariant-loop-before : goal.invariant-loop-before
invariant-loop-before l = (k : ℕ) → k < l.before-index → (get_or l.before-items k (0, 0)).1 ≡ l.node
    → HasInput l.graph l.node (get_or l.before-items k (0, 0)).0
