use Rattle.std.proofs.Common.{◌≡◌, length}
use Rattle.longest_keys.specs.Walks.{AreFails}
use Rattle.longest_keys.proofs.walking.fails_of.Given as goal

abbrev pub invariant-loop-i : goal.invariant-loop-i
invariant-loop-i l = AreFails l.nodes l.fails.items × (length l.fails.items ≡ l.i)
