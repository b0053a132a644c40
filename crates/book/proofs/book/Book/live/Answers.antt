-- A live engine's number was drawn.
use Rattle.std.proofs.Common.{List, subst, sym, ℕ}
use Rattle.std.specs.Prelude.{Contains, ◌<◌}
use Rattle.book.specs.Kept.{Shown}
use Rattle.dep_graph.specs.Lists.{IsRising}
use Rattle.book.proofs.Headlines.{rising, workable}
use Rattle.book.proofs.book.Book.live.Goals as goal

pub returns-clause-drawn : goal.returns-clause-drawn
returns-clause-drawn g c e among = subst (λ (b : Shown g.row.K.Denot g.row.P.Denot). e < b.state.next.engine) c.self.view_is
    ((workable _ _ _ _ _ _ c.self.invariant.0).drawn.live e
    (subst (λ (es : List ℕ). Contains es e) c.live.ensures among))

pub returns-clause-rising : goal.returns-clause-rising
returns-clause-rising g c = subst IsRising (sym c.live.ensures) (rising _ _ _ _ _ _ c.self.invariant.0)
