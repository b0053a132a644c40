use Rattle.std.proofs.Common.{◌≡◌, ◌∷◌, take}
use Rattle.std.specs.Prelude.{map}
use Rattle.step_relation.specs.Inputs.{point_after}
use Rattle.step_reads.proofs.points.points_passed.Given as goal

abbrev pub invariant-loop-succ : goal.invariant-loop-succ
invariant-loop-succ l = l.points ≡ map (point_after l.graph l.node l.input l.succs) (l.node ∷ take l.succ-index l.succs)
