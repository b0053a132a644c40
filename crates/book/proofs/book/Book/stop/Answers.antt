use Rattle.std.proofs.Common.{refl, sym, ◌∙◌}
use Rattle.book.specs.Makings.{memory}
use Rattle.book.proofs.Doing.{kept_done, stop_step}
use Rattle.book.proofs.Headlines.{alone}
use Rattle.book.proofs.Held.{fine_step, held_ready, stepped_halts, stepped_held}
use Rattle.book.proofs.Recorded.{recorded_done}
use Rattle.book.proofs.Crashing.{left_done}
use Rattle.book.proofs.Unhalted.{held_unhalted, is_halted, kept_unhalted, left_unhalted, unhalted}
use Rattle.book.proofs.book.Book.stop.Goals as goal

pub make_stop-done-requires-clause-workable : goal.make_stop-done-requires-clause-workable
make_stop-done-requires-clause-workable g c = alone _ _ _ _ _ _ c.self.invariant.0

pub make_stop-done-requires-clause-ready : goal.make_stop-done-requires-clause-ready
make_stop-done-requires-clause-ready g c = held_ready _ _ _ _ _
    (held_unhalted _ _ _ _ _ _ (sym c.is_some.ensures ∙ c.if-is_some.false) c.self.invariant.1.0)

pub invariant_of-self : goal.invariant_of-self
invariant_of-self g c =
    let none = sym c.is_some.ensures ∙ c.if-is_some.false in
    let t = c.make_stop-done.ensures in
    let kept = kept_unhalted _ _ _ _ _ _ none c.self.invariant.0 in
    let held = stepped_held _ _ _ _ _ _ _ _ _ _ (held_unhalted _ _ _ _ _ _ none c.self.invariant.1.0) _
    c.halt_after-self-inside.ensures t.kept in (
      kept_done _ _ _ _ _ _ _ _ _ _ _ _ kept (λ cs es k. stop_step _ c.args.e cs es k) t.does,
      (
        held.0,
        (
          held.1,
          left_done _ _ _ _ _ _ (g.met.K.Keeper.lawful _) _ _ _ _ _ _ _ _ _ (λ cs es k. stop_step _ c.args.e cs es k) _ _ _
              c.halt_after-self-inside.ensures kept
              (left_unhalted _ _ _ _ _ _ _ _ none c.self.invariant.1.1.1) t,
        ),
      ),
    )

pub returns-then-is_some-clause-records : goal.returns-then-is_some-clause-records
returns-then-is_some-clause-records g c = rw (← c.self.view_is)
    (λ none. absurd (is_halted _ (sym c.is_some.ensures ∙ c.if-is_some.true) none))

pub returns-clause-records : goal.returns-clause-records
returns-clause-records g c = rw (← c.self.view_is) (λ none. recorded_done _ _ _ _ c.self.invariant.0.agrees _ _ _ _ _ _
    (λ cs es k. stop_step _ c.args.e cs es k) c.make_stop-done.ensures
    (λ ne. fine_step _ (λ same. ne (c.halt_after-self-inside.ensures ∙ same))) refl)

pub returns-clause-halt : goal.returns-clause-halt
returns-clause-halt g c = rw (← c.self.view_is) (stepped_halts _ _ _
    (unhalted c.self.inside.halt (sym c.is_some.ensures ∙ c.if-is_some.false)) _ _ _ _ _ _
    c.halt_after-self-inside.ensures c.make_stop-done.ensures.kept)

pub returns-then-is_some-clause-halted : goal.returns-then-is_some-clause-halted
returns-then-is_some-clause-halted g c = rw (← c.self.view_is) (λ halted. (refl, refl))

pub returns-clause-halted : goal.returns-clause-halted
returns-clause-halted g c = rw (← c.self.view_is)
    (λ halted. absurd (halted (unhalted c.self.inside.halt (sym c.is_some.ensures ∙ c.if-is_some.false))))

pub returns-then-is_some-clause-stopped : goal.returns-then-is_some-clause-stopped
returns-then-is_some-clause-stopped g c = rw (← c.self.view_is) (memory refl refl)

pub returns-clause-stopped : goal.returns-clause-stopped
returns-clause-stopped g c = rw (← c.self.view_is) c.make_stop-done.ensures.does
