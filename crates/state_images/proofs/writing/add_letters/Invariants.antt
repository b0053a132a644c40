use Rattle.std.proofs.Common.{◌≡◌, ◌++◌, map, take}
use Rattle.core_state.specs.declared.change.Change.TheVariants.{Send}
use Rattle.state_images.proofs.writing.add_letters.Given as goal

abbrev pub invariant-loop-letter : goal.invariant-loop-letter
invariant-loop-letter l = l.changes ≡ l.fn.changes ++ map Send (take l.letter-index l.letters)
