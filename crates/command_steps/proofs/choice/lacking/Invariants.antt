use Rattle.std.proofs.Common.{◌≡◌, ◌≤◌, ◌+◌, drop}
use Rattle.command_steps.specs.Choices.{lacking}
use Rattle.command_steps.proofs.choice.lacking.Given as goal

abbrev pub invariant-loop-row : goal.invariant-loop-row
invariant-loop-row l = (lacking l.found ≡ l.count + lacking (drop l.row-index l.found)) × (l.count ≤ l.row-index)
