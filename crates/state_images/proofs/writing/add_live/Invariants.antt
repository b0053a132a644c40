use Rattle.std.proofs.Common.{◌≡◌, ◌++◌, map, take}
use Rattle.core_state.specs.declared.change.Change.TheVariants.{Enlist}
use Rattle.state_images.proofs.writing.add_live.Given as goal

abbrev pub invariant-loop-engine : goal.invariant-loop-engine
invariant-loop-engine l = l.changes ≡ l.fn.changes ++ map Enlist (take l.engine-index l.live)
