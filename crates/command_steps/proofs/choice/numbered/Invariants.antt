use Rattle.std.proofs.Common.{◌≡◌, ◌≤◌, ◌+◌, ◌++◌, ◌^◌, drop, length}
use Rattle.command_steps.specs.Choices.{lacking, numbered}
use Rattle.command_steps.proofs.choice.numbered.Given as goal

abbrev pub invariant-loop-row : goal.invariant-loop-row
invariant-loop-row l = (length l.all.items ≡ l.row-index) × (1 ≤ l.next) × (l.next ≤ 2 ^ 62)
    × (l.fn.first + lacking l.found ≤ 2 ^ 62 → (l.next + lacking (drop l.row-index l.found) ≤ 2 ^ 62)
    × (numbered l.fn.first l.found ≡ l.all.items ++ numbered l.next (drop l.row-index l.found)))
