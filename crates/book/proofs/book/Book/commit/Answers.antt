-- As a turn, where it isn't the fence.
use Rattle.std.proofs.Common.{refl, subst, sym, ◌∙◌}
use Rattle.std.specs.Prelude.{◌<◌}
use Rattle.book.specs.Kept.{Shown}
use Rattle.book.proofs.Fences.{committed_live, kept_committed}
use Rattle.book.proofs.Headlines.{over}
use Rattle.book.proofs.Held.{fine_turn, held_ready, turned_halts, turned_held}
use Rattle.book.proofs.Recorded.{recorded_commit}
use Rattle.book.proofs.Crashing.{left_committed}
use Rattle.book.proofs.Unhalted.{held_unhalted, is_halted, kept_unhalted, left_unhalted, no_commit, unhalted}
use Rattle.book.proofs.book.Book.commit.Goals as goal

pub commit_of-turn-requires-clause-drawn : goal.commit_of-turn-requires-clause-drawn
commit_of-turn-requires-clause-drawn g c =
    subst (λ (b : Shown g.row.K.Denot g.row.P.Denot). c.args.e < b.state.next.engine) (sym c.self.view_is) c.requires.drawn

pub commit_of-turn-requires-clause-workable : goal.commit_of-turn-requires-clause-workable
commit_of-turn-requires-clause-workable g c = over _ _ _ _ _ _ c.self.invariant.0

pub commit_of-turn-requires-clause-ready : goal.commit_of-turn-requires-clause-ready
commit_of-turn-requires-clause-ready g c = held_ready _ _ _ _ _
    (held_unhalted _ _ _ _ _ _ (sym c.is_some.ensures ∙ c.if-is_some.false) c.self.invariant.1.0)

pub invariant_of-self : goal.invariant_of-self
invariant_of-self g c =
    let none = sym c.is_some.ensures ∙ c.if-is_some.false in
    let t = c.commit_of-turn.ensures.committed in
    let kept = kept_unhalted _ _ _ _ _ _ none c.self.invariant.0 in
    let held = turned_held _ _ _ _ _ _ _ _ _ _ (held_unhalted _ _ _ _ _ _ none c.self.invariant.1.0) _
    c.halt_by-self-inside.ensures t.kept in (
      kept_committed _ _ c.args.e c.args.work _ _ _ _ kept t.committed,
      (
        held.0,
        (
          held.1,
          left_committed _ _ _ _ _ _ (g.met.K.Keeper.lawful _) c.args.e c.args.work _ _ _ _ _ _ c.halt_by-self-inside.ensures kept
              (left_unhalted _ _ _ _ _ _ _ _ none c.self.invariant.1.1.1) t,
        ),
      ),
    )

pub returns-then-is_some-clause-committed : goal.returns-then-is_some-clause-committed
returns-then-is_some-clause-committed g c = rw (← c.self.view_is) (no_commit c.args.e c.args.work _)

pub returns-then-is_some-clause-records : goal.returns-then-is_some-clause-records
returns-then-is_some-clause-records g c = rw (← c.self.view_is)
    (λ none. absurd (is_halted _ (sym c.is_some.ensures ∙ c.if-is_some.true) none))

pub returns-clause-committed : goal.returns-clause-committed
returns-clause-committed g c = rw (← c.self.view_is) c.commit_of-turn.ensures.committed.committed

pub returns-clause-records : goal.returns-clause-records
returns-clause-records g c = rw (← c.self.view_is) (λ none. recorded_commit _ _ _ _ c.self.invariant.0.agrees
    c.args.e _ _ c.args.work _ c.commit_of-turn.ensures.committed (λ ne. fine_turn _ (λ same. ne (c.halt_by-self-inside.ensures ∙ same))))

pub returns-clause-live : goal.returns-clause-live
returns-clause-live g c = rw (← c.self.view_is)
    (committed_live c.args.e c.args.work _ _ _ c.commit_of-turn.ensures.committed.committed)

pub returns-clause-halt : goal.returns-clause-halt
returns-clause-halt g c = rw (← c.self.view_is) (turned_halts _ _ _
    (unhalted c.self.inside.halt (sym c.is_some.ensures ∙ c.if-is_some.false)) _ _ _ _ _ _
    c.halt_by-self-inside.ensures c.commit_of-turn.ensures.committed.kept)

pub returns-then-is_some-clause-halted : goal.returns-then-is_some-clause-halted
returns-then-is_some-clause-halted g c = rw (← c.self.view_is) (λ halted. (refl, refl))

pub returns-clause-halted : goal.returns-clause-halted
returns-clause-halted g c = rw (← c.self.view_is)
    (λ halted. absurd (halted (unhalted c.self.inside.halt (sym c.is_some.ensures ∙ c.if-is_some.false))))
