use Rattle.std.proofs.Common.{◌≡◌, ◌++◌, ◌+◌, drop}
use Rattle.step_relation.specs.Writes.{letters_to}
use Rattle.step_parts.proofs.letters.letters_to.Given as goal

abbrev pub invariant-loop-i : goal.invariant-loop-i
invariant-loop-i l = letters_to l.stack l.first l.nodes ≡ l.letters ++ letters_to l.stack (l.first + l.i) (drop l.i l.nodes)
