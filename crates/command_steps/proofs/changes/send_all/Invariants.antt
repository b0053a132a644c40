use Rattle.std.proofs.Common.{◌≡◌, ◌++◌, map}
use Rattle.core_state.specs.declared.change.Change.TheVariants.{Send}
use Rattle.command_steps.proofs.changes.send_all.Given as goal

abbrev pub invariant-loop-letter : goal.invariant-loop-letter
invariant-loop-letter l =
    l.changes ++ map Send l.letter-iterator.rest.items ≡ l.fn.changes ++ map Send l.fn.letters.items
