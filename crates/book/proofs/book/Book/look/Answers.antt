use Rattle.std.proofs.Common.{subst, sym}
use Rattle.std.specs.Prelude.{◌<◌}
use Rattle.book.specs.Kept.{Shown}
use Rattle.book.proofs.Beginnings.{has_point}
use Rattle.book.proofs.Headlines.{workable}
use Rattle.book.proofs.book.Book.look.Goals as goal

pub look-requires-clause-drawn : goal.look-requires-clause-drawn
look-requires-clause-drawn g c = subst (λ (b : Shown g.row.K.Denot g.row.P.Denot). c.args.e < b.state.next.engine)
    (sym c.self.view_is) c.requires

pub look-requires-clause-points : goal.look-requires-clause-points
look-requires-clause-points g c = has_point _ c.args.e (workable _ _ _ _ _ _ c.self.invariant.0).graphs

pub returns : goal.returns
returns g c = rw (← c.self.view_is) c.look.ensures
