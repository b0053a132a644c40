use Rattle.std.proofs.Common.{◌≡◌, ℕ, length}
use Rattle.longest_keys.specs.Finders.{IsNumbered}
use Rattle.longest_keys.proofs.finder.longest_of.Given as goal

abbrev pub invariant-loop-i : goal.invariant-loop-i
invariant-loop-i l = (length l.longest.items ≡ l.i) × ((i : ℕ) → IsNumbered l.own l.fails l.longest.items i)
