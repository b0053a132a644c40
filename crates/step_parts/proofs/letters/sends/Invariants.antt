use Rattle.std.proofs.Common.{◌≡◌, map, take}
use Rattle.core_state.specs.declared.change.Change.TheVariants.{Send}
use Rattle.step_parts.proofs.letters.sends.Given as goal

abbrev pub invariant-loop-letter : goal.invariant-loop-letter
invariant-loop-letter l = l.changes ≡ map Send (take l.letter-index l.letters)
