use Rattle.std.proofs.Common.{◌≡◌, map, take}
use Rattle.command_steps.specs.Choices.{found_for}
use Rattle.command_steps.proofs.choice.found_for.Given as goal

abbrev pub invariant-loop-row : goal.invariant-loop-row
invariant-loop-row l = l.found ≡ found_for (take l.row-index (map (λ r. r.now) l.rows)) l.items
