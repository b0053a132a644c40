-- As a turn: the history is that of a run, and its keeper stands for the state.
use Rattle.std.proofs.Common.{refl, sym, ◌∙◌}
use Rattle.book.proofs.Crashing.{left_restarted}
use Rattle.book.proofs.Headlines.{alone}
use Rattle.book.proofs.Held.{held_ready}
use Rattle.book.proofs.Rehalted.{held_restarted, refused_behind, restarted_well, unhalted_behind}
use Rattle.book.proofs.Relisted.{kept_restarted, recorded_restart}
use Rattle.book.proofs.Unhalted.{held_unhalted, is_halted, kept_unhalted, left_unhalted, unhalted}
use Rattle.book.proofs.book.Book.restart.Goals as goal

pub restart_with-done-requires-clause-workable : goal.restart_with-done-requires-clause-workable
restart_with-done-requires-clause-workable g c = alone _ _ _ _ _ _ c.self.invariant.0

pub restart_with-done-requires-clause-ready : goal.restart_with-done-requires-clause-ready
restart_with-done-requires-clause-ready g c = held_ready _ _ _ _ _
    (held_unhalted _ _ _ _ _ _ (sym c.is_some.ensures ∙ c.if-is_some.false) c.self.invariant.1.0)

pub invariant_of-self : goal.invariant_of-self
invariant_of-self g c =
    let none = sym c.is_some.ensures ∙ c.if-is_some.false in
    let t = c.restart_with-done.ensures in
    let kept = kept_unhalted _ _ _ _ _ _ none c.self.invariant.0 in
    let held = held_restarted _ _ _ _ _ _ _ _ _ _ _ (held_unhalted _ _ _ _ _ _ none c.self.invariant.1.0)
    c.halt_behind-self-inside.ensures t.kept in (
      kept_restarted _ _ _ c.args.workers _ _ _ _ c.requires.some c.requires.few c.halt_behind-self-inside.ensures kept t.does,
      (
        held.0,
        (
          held.1,
          left_restarted _ _ _ _ _ _ (g.met.K.Keeper.lawful _) c.args.workers _ _ _ _ _ _ c.requires.some c.requires.few
              c.halt_behind-self-inside.ensures kept (left_unhalted _ _ _ _ _ _ _ _ none c.self.invariant.1.1.1) t,
        ),
      ),
    )

pub returns-clause-restarted : goal.returns-clause-restarted
returns-clause-restarted g c = rw (← c.self.view_is)
    (λ none. restarted_well _ c.args.workers _ _ _ c.restart_with-done.ensures.does)

pub returns-clause-goes_on : goal.returns-clause-goes_on
returns-clause-goes_on g c = rw (← c.self.view_is) (λ none. unhalted_behind _ _ c.halt_behind-self-inside.ensures)

pub returns-clause-refused : goal.returns-clause-refused
returns-clause-refused g c = rw (← c.self.view_is)
    (λ none. refused_behind _ _ _ c.args.workers _ _ _ c.halt_behind-self-inside.ensures c.restart_with-done.ensures)

pub returns-clause-records : goal.returns-clause-records
returns-clause-records g c = rw (← c.self.view_is) (λ none. recorded_restart _ _ _ _ c.self.invariant.0.agrees
    c.args.workers c.requires.some c.requires.few _ _ _ c.halt_behind-self-inside.ensures c.restart_with-done.ensures)

pub returns-clause-later : goal.returns-clause-later
returns-clause-later g c = rw (← c.self.view_is) c.restart_with-done.ensures.kept.keeps.goes_on.later

pub returns-clause-halted : goal.returns-clause-halted
returns-clause-halted g c = rw (← c.self.view_is)
    (λ halted. absurd (halted (unhalted c.self.inside.halt (sym c.is_some.ensures ∙ c.if-is_some.false))))

pub returns-then-is_some-clause-restarted : goal.returns-then-is_some-clause-restarted
returns-then-is_some-clause-restarted g c = rw (← c.self.view_is)
    (λ none. absurd (is_halted _ (sym c.is_some.ensures ∙ c.if-is_some.true) none))

pub returns-then-is_some-clause-goes_on : goal.returns-then-is_some-clause-goes_on
returns-then-is_some-clause-goes_on g c = rw (← c.self.view_is)
    (λ none. absurd (is_halted _ (sym c.is_some.ensures ∙ c.if-is_some.true) none))

pub returns-then-is_some-clause-refused : goal.returns-then-is_some-clause-refused
returns-then-is_some-clause-refused g c = rw (← c.self.view_is)
    (λ none. absurd (is_halted _ (sym c.is_some.ensures ∙ c.if-is_some.true) none))

pub returns-then-is_some-clause-records : goal.returns-then-is_some-clause-records
returns-then-is_some-clause-records g c = rw (← c.self.view_is)
    (λ none. absurd (is_halted _ (sym c.is_some.ensures ∙ c.if-is_some.true) none))

pub returns-then-is_some-clause-halted : goal.returns-then-is_some-clause-halted
returns-then-is_some-clause-halted g c = rw (← c.self.view_is) (λ halted. (refl, refl))
