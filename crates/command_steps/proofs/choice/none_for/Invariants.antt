use Rattle.std.proofs.Common.{◌≡◌, [], take}
use Rattle.command_steps.specs.Choices.{found_for}
use Rattle.command_steps.proofs.choice.none_for.Given as goal

abbrev pub invariant-loop : goal.invariant-loop
invariant-loop l = l.found ≡ found_for [] (take l.index l.items)
