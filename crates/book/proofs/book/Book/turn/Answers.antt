-- The history is that of a run, whose laws say that the turn finds what it needs.
use Rattle.std.proofs.Common.{refl, subst, sym, ◌∙◌}
use Rattle.std.specs.Prelude.{◌<◌}
use Rattle.book.specs.Kept.{Shown}
use Rattle.book.proofs.Engined.{turned_live}
use Rattle.book.proofs.Headlines.{over}
use Rattle.book.proofs.Held.{fine_turn, held_ready, turned_halts, turned_held}
use Rattle.book.proofs.KeptTurned.{kept_turned}
use Rattle.book.proofs.Recorded.{recorded_turn}
use Rattle.book.proofs.Crashing.{left_turned}
use Rattle.book.proofs.Unhalted.{held_unhalted, is_halted, kept_unhalted, left_unhalted, no_turn, unhalted}
use Rattle.book.proofs.book.Book.turn.Goals as goal

pub turn_of-turn-requires-clause-drawn : goal.turn_of-turn-requires-clause-drawn
turn_of-turn-requires-clause-drawn g c =
    subst (λ (b : Shown g.row.K.Denot g.row.P.Denot). c.args.e < b.state.next.engine) (sym c.self.view_is) c.requires

pub turn_of-turn-requires-clause-workable : goal.turn_of-turn-requires-clause-workable
turn_of-turn-requires-clause-workable g c = over _ _ _ _ _ _ c.self.invariant.0

pub turn_of-turn-requires-clause-ready : goal.turn_of-turn-requires-clause-ready
turn_of-turn-requires-clause-ready g c = held_ready _ _ _ _ _
    (held_unhalted _ _ _ _ _ _ (sym c.is_some.ensures ∙ c.if-is_some.false) c.self.invariant.1.0)

pub invariant_of-self : goal.invariant_of-self
invariant_of-self g c =
    let none = sym c.is_some.ensures ∙ c.if-is_some.false in
    let t = c.turn_of-turn.ensures in
    let kept = kept_unhalted _ _ _ _ _ _ none c.self.invariant.0 in
    let held = turned_held _ _ _ _ _ _ _ _ _ _ (held_unhalted _ _ _ _ _ _ none c.self.invariant.1.0) _
    c.halt_by-self-inside.ensures t.kept in (
      kept_turned _ _ c.args.e _ _ _ _ kept t.turned,
      (
        held.0,
        (
          held.1,
          left_turned _ _ _ _ _ _ (g.met.K.Keeper.lawful _) c.args.e _ _ _ _ _ _ c.halt_by-self-inside.ensures kept
              (left_unhalted _ _ _ _ _ _ _ _ none c.self.invariant.1.1.1) t,
        ),
      ),
    )

pub returns-then-is_some-clause-turned : goal.returns-then-is_some-clause-turned
returns-then-is_some-clause-turned g c = rw (← c.self.view_is) (no_turn c.args.e _)

pub returns-then-is_some-clause-records : goal.returns-then-is_some-clause-records
returns-then-is_some-clause-records g c = rw (← c.self.view_is)
    (λ none. absurd (is_halted _ (sym c.is_some.ensures ∙ c.if-is_some.true) none))

pub returns-clause-turned : goal.returns-clause-turned
returns-clause-turned g c = rw (← c.self.view_is) c.turn_of-turn.ensures.turned

pub returns-clause-records : goal.returns-clause-records
returns-clause-records g c = rw (← c.self.view_is) (λ none. recorded_turn _ _ _ _ c.self.invariant.0.agrees
    c.args.e _ _ _ c.turn_of-turn.ensures (λ ne. fine_turn _ (λ same. ne (c.halt_by-self-inside.ensures ∙ same))))

pub returns-clause-live : goal.returns-clause-live
returns-clause-live g c = rw (← c.self.view_is) (turned_live c.args.e _ _ _ c.turn_of-turn.ensures.turned)

pub returns-clause-halt : goal.returns-clause-halt
returns-clause-halt g c = rw (← c.self.view_is) (turned_halts _ _ _
    (unhalted c.self.inside.halt (sym c.is_some.ensures ∙ c.if-is_some.false)) _ _ _ _ _ _
    c.halt_by-self-inside.ensures c.turn_of-turn.ensures.kept)

pub returns-then-is_some-clause-halted : goal.returns-then-is_some-clause-halted
returns-then-is_some-clause-halted g c = rw (← c.self.view_is) (λ halted. (refl, refl))

pub returns-clause-halted : goal.returns-clause-halted
returns-clause-halted g c = rw (← c.self.view_is)
    (λ halted. absurd (halted (unhalted c.self.inside.halt (sym c.is_some.ensures ∙ c.if-is_some.false))))
