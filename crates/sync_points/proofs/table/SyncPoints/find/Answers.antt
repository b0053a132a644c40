use Rattle.std.proofs.Common.{length, sym, ap, subst, arith}
use Rattle.sync_points.specs.Numbers.{AreNumbered}
use Rattle.sync_points.proofs.Places.{position_numbered, position_past}
use Rattle.sync_points.proofs.table.SyncPoints.find.Goals as goal

pub returns-then-place-len-clause-place : goal.returns-then-place-len-clause-place
returns-then-place-len-clause-place c =
    sym (position_numbered 0 c.args.node c.args.self.now (subst (AreNumbered 0) c.self.view_is c.self.invariant) (omega arith)
    (omega (arith, c.if-place-len.true, c.len.ensures, ap (λ ps. length ps) c.self.view_is)))

pub returns-clause-place : goal.returns-clause-place
returns-clause-place c =
    sym (position_past 0 c.args.node c.args.self.now (subst (AreNumbered 0) c.self.view_is c.self.invariant)
    (omega (arith, c.if-place-len.false, c.len.ensures, ap (λ ps. length ps) c.self.view_is)))
