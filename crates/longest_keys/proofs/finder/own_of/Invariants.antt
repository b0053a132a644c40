use Rattle.std.proofs.Common.{◌≡◌, length}
use Rattle.longest_keys.proofs.FinderLemmas.{AreOwnOf}
use Rattle.longest_keys.proofs.finder.own_of.Given as goal

abbrev pub invariant-loop-i : goal.invariant-loop-i
invariant-loop-i l = (length l.own.items ≡ l.count) × AreOwnOf l.ends l.i l.own.items
