use Rattle.std.proofs.Common.{◌≡◌, ◌++◌, map, take}
use Rattle.core_state.specs.declared.change.Change.TheVariants.{Release}
use Rattle.state_images.proofs.writing.add_released.Given as goal

abbrev pub invariant-loop-token : goal.invariant-loop-token
invariant-loop-token l = l.changes ≡ l.fn.changes ++ map Release (take l.token-index l.released)
