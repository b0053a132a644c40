use Rattle.std.proofs.Common.{◌≡◌, ◌+◌, drop}
use Rattle.sim_cloud.specs.Conduct.{is_listed}
use Rattle.sim_cloud.proofs.conduct.is_listed.Given as goal

abbrev pub invariant-loop-number : goal.invariant-loop-number
invariant-loop-number l = is_listed l.fn.numbers (l.made + 1) ≡ is_listed (drop l.number-index l.numbers) (l.made + 1)
