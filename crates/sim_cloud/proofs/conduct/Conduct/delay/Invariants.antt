use Rattle.std.proofs.Common.{◌≡◌, drop}
use Rattle.sim_cloud.specs.Conduct.{delay_in}
use Rattle.sim_cloud.proofs.conduct.Conduct.delay.Given as goal

abbrev pub invariant-loop-delay : goal.invariant-loop-delay
invariant-loop-delay l = delay_in l.fn.self.delays l.kind ≡ delay_in (drop l.delay-index l.delay-items) l.kind
