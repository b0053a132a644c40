use Rattle.hot_eval.specs.Repeats.{lists_of}
use Rattle.hot_eval.proofs.Linked.{AreLinked}
use Rattle.hot_eval.proofs.walk.links_of.Given as goal

-- the links so far
abbrev pub invariant-loop-at : goal.invariant-loop-at
invariant-loop-at l = AreLinked (lists_of l.lists) l.links.items l.at
