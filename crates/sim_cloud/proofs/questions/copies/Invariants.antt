use Rattle.std.proofs.Common.{◌≡◌, take}
use Rattle.sim_cloud.specs.Holding.{whats}
use Rattle.sim_cloud.proofs.questions.copies.Given as goal

abbrev pub invariant-loop-one : goal.invariant-loop-one
invariant-loop-one l = l.all ≡ whats (take l.one-index l.held)
