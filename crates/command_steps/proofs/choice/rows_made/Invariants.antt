use Rattle.std.proofs.Common.{◌≡◌, ◌≤◌, ◌+◌, ◌++◌, ◌^◌, drop}
use Rattle.command_steps.specs.Choices.{lacking, rows_made}
use Rattle.command_steps.proofs.choice.rows_made.Given as goal

abbrev pub invariant-loop-i : goal.invariant-loop-i
invariant-loop-i l = (1 ≤ l.next) × (l.next + lacking (drop l.i l.found) ≤ 2 ^ 62)
    × (rows_made l.stack l.trav l.fn.first l.items l.found ≡ l.rows ++ rows_made l.stack l.trav l.next
    (drop l.i l.items) (drop l.i l.found))
