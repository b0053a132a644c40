use Rattle.std.proofs.Common.{◌≡◌, drop}
use Rattle.sim_cloud.specs.Conduct.{code_in}
use Rattle.sim_cloud.proofs.conduct.Conduct.code.Given as goal

abbrev pub invariant-loop-one : goal.invariant-loop-one
invariant-loop-one l = code_in l.fn.self.broken l.name ≡ code_in (drop l.one-index l.one-items) l.name
