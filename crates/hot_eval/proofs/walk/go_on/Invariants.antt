use Rattle.hot_eval.specs.Repeats.{lists_of, IsChoiceAt}
use Rattle.hot_eval.proofs.Turns.{AreTurned}
use Rattle.hot_eval.proofs.walk.go_on.Given as goal

-- from the place on, each stood at its last and is the first again; and the choice is that of these places
abbrev pub invariant-loop-at : goal.invariant-loop-at
invariant-loop-at l =
    AreTurned (lists_of l.lists) l.fn.places.items l.places.items l.at
    × IsChoiceAt (lists_of l.lists) l.places.items l.stocks.items l.choice

abbrev pub decreases-loop-at : goal.decreases-loop-at
decreases-loop-at l = l.at
