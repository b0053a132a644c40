use Rattle.std.proofs.Common.{◌≤◌, length, drop}
use Rattle.longest_keys.specs.Walks.{IsDeepest}
use Rattle.longest_keys.proofs.WalkLemmas.{AreStatesFrom}
use Rattle.longest_keys.proofs.walking.states_of.Given as goal

-- the places from here on are told, and the state is that of this place
abbrev pub invariant-loop-left : goal.invariant-loop-left
invariant-loop-left l = (l.left ≤ length l.text) × AreStatesFrom l.nodes l.text l.states.items l.left × IsDeepest l.nodes (drop l.left l.text) l.at

abbrev pub decreases-loop-left : goal.decreases-loop-left
decreases-loop-left l = l.left
