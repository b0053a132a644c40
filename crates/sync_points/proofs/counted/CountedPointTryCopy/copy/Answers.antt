use Rattle.std.proofs.Common.{◌≡◌, sym, subst}
use Rattle.std.specs.Prelude.{IfSome}
use Rattle.sync_points.specs.Points.{missing_of}
use Rattle.sync_points.proofs.counted.CountedPointTryCopy.copy.Goals as goal

pub invariant_of-result : goal.invariant_of-result
invariant_of-result c =
    subst (λ p. IfSome c.self.inside.missing (λ count. count ≡ missing_of p)) (sym c.in_ok-copy.ensures) c.self.invariant
