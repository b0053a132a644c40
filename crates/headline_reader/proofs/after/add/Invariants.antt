use Rattle.std.proofs.Common.{◌≡◌, ◌++◌, drop}
use Rattle.headline_reader.proofs.after.add.Given as goal

abbrev pub invariant-loop-state : goal.invariant-loop-state
invariant-loop-state l = l.all ++ drop l.state-index l.more ≡ l.initial.all ++ l.more
