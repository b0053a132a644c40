use Rattle.longest_keys.proofs.FinderLemmas.{AreTurned}
use Rattle.longest_keys.proofs.finder.KeyFinder.found_in.Given as goal

abbrev pub invariant-loop-i : goal.invariant-loop-i
invariant-loop-i l = AreTurned l.initial.found.items l.self.longest.items l.found.items l.i
