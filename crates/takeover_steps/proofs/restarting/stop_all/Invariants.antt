use Rattle.std.proofs.Common.{◌≡◌, ◌++◌, drop, map}
use Rattle.core_state.specs.declared.change.Change.TheVariants.{Stop}
use Rattle.takeover_steps.proofs.restarting.stop_all.Given as goal

abbrev pub invariant-loop-e : goal.invariant-loop-e
invariant-loop-e l = l.changes ++ map Stop (drop l.e-index l.live) ≡ l.fn.changes ++ map Stop l.live
