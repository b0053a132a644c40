use Rattle.std.proofs.Common.{◌≡◌, [], drop}
use Rattle.report.specs.Seen.{stacks_seen}
use Rattle.report.proofs.seen.stacks_of.Given as goal

abbrev pub invariant-loop-stack : goal.invariant-loop-stack
invariant-loop-stack l = stacks_seen l.list.items (drop l.stack-index l.stacks) ≡ stacks_seen [] l.stacks
