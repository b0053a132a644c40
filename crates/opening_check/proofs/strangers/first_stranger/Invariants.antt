use Rattle.opening_check.specs.Strangers.{AreExpected}
use Rattle.opening_check.proofs.strangers.first_stranger.Given as goal

-- those before are somebody's
abbrev pub invariant-loop-alive : goal.invariant-loop-alive
invariant-loop-alive l = AreExpected l.s.state l.all l.alive-index
