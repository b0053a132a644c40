use Rattle.std.proofs.Common.{take}
use Rattle.hot_eval.specs.Repeats.{lists_of}
use Rattle.hot_eval.proofs.Turns.{AreZeros}
use Rattle.hot_eval.proofs.walk.first_places.Given as goal

-- the places so far are the first, of lists that aren't empty
abbrev pub invariant-loop-list : goal.invariant-loop-list
invariant-loop-list l = AreZeros (lists_of (take l.list-index l.lists)) l.places.items
