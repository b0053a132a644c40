use Rattle.std.proofs.Common.{get_or, ◌<◌, ◌≢◌, ℕ}
use Rattle.sync_points.specs.declared.point.Input.{Input}
use Rattle.driver.proofs.nodes.has_input.Given as goal

abbrev pub invariant-loop-shared : goal.invariant-loop-shared
invariant-loop-shared l = (k : ℕ) (d : Input) → k < l.shared-index → (get_or l.shared-items k d).from ≢ l.before
