use Rattle.std.proofs.Common.{◌≡◌, take}
use Rattle.std.specs.Prelude.{map}
use Rattle.step_reads.proofs.nodes.givers.Given as goal

abbrev pub invariant-loop-shared : goal.invariant-loop-shared
invariant-loop-shared l = l.givers.items ≡ map (λ x. x.from) (take l.shared-index l.inputs)
