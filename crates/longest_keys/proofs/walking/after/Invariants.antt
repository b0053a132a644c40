use Rattle.std.proofs.Common.{◌<◌, ℕ, List, length}
use Rattle.longest_keys.specs.Walks.{IsDeepest}
use Rattle.longest_keys.proofs.WalkLemmas.{IsRest}
use Rattle.longest_keys.proofs.walking.after.Given as goal

-- what is left to look at has each text that stands behind the byte
abbrev pub invariant-loop-at : goal.invariant-loop-at
invariant-loop-at l = (l.at < length l.fails) × ((t : List ℕ) → IsDeepest l.nodes t l.start → IsRest l.nodes l.byte t l.at)

abbrev pub decreases-loop-at : goal.decreases-loop-at
decreases-loop-at l = l.at
