use Rattle.std.proofs.Common.{◌≡◌, ◌++◌, map, take}
use Rattle.core_state.specs.declared.change.Change.TheVariants.{PutPast}
use Rattle.state_images.proofs.writing.add_pasts.Given as goal

abbrev pub invariant-loop-past : goal.invariant-loop-past
invariant-loop-past l = l.changes ≡ l.fn.changes ++ map PutPast (take l.past-index l.pasts)
