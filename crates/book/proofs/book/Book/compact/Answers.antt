-- The keeper stands for the state, whose rows it may keep.
use Rattle.std.proofs.Common.{refl, sym, ◌∙◌}
use Rattle.book.proofs.Held.{held_ready}
use Rattle.book.proofs.Images.{book_written}
use Rattle.book.proofs.Shortened.{compacted, held_shortened, kept_shortened, left_shortened}
use Rattle.book.proofs.Unhalted.{held_unhalted, is_halted, kept_unhalted, left_unhalted, unhalted}
use Rattle.book.proofs.book.Book.compact.Goals as goal

pub shorten-done-requires-clause-stands : goal.shorten-done-requires-clause-stands
shorten-done-requires-clause-stands g c = (held_ready _ _ _ _ _
    (held_unhalted _ _ _ _ _ _ (sym c.is_some.ensures ∙ c.if-is_some.false) c.self.invariant.1.0)).stands

pub shorten-done-requires-clause-made : goal.shorten-done-requires-clause-made
shorten-done-requires-clause-made g c = (book_written _ _ _ _ _ _ c.self.invariant.0).made

pub shorten-done-requires-clause-keepable : goal.shorten-done-requires-clause-keepable
shorten-done-requires-clause-keepable g c = (book_written _ _ _ _ _ _ c.self.invariant.0).rows

pub invariant_of-self : goal.invariant_of-self
invariant_of-self g c =
    let none = sym c.is_some.ensures ∙ c.if-is_some.false in
    let t = c.shorten-done.ensures in
    let kept = kept_unhalted _ _ _ _ _ _ none c.self.invariant.0 in
    let held = held_shortened _ _ _ _ _ _ t _ c.halt_compacting-self-inside.ensures _ _
    (held_unhalted _ _ _ _ _ _ none c.self.invariant.1.0) in (
      kept_shortened _ _ _ _ _ _ t _ c.halt_compacting-self-inside.ensures _ _ _ _ kept,
      (
        held.0,
        (
          held.1,
          left_shortened _ _ _ _ _ _ t _ c.halt_compacting-self-inside.ensures _ _ _ _ kept _ _ (g.met.K.Keeper.lawful _)
              (left_unhalted _ _ _ _ _ _ _ _ none c.self.invariant.1.1.1),
        ),
      ),
    )

pub returns-clause-compacted : goal.returns-clause-compacted
returns-clause-compacted g c = rw (← c.self.view_is)
    (λ none. compacted {K = g.row.K.Denot} {P = g.row.P.Denot} _ _ _ _ _ _ c.halt_compacting-self-inside.ensures none c.shorten-done.ensures)

pub returns-clause-leaves : goal.returns-clause-leaves
returns-clause-leaves g c = rw (← c.self.view_is) (λ none tells. c.shorten-done.ensures.leaves tells)

pub returns-clause-later : goal.returns-clause-later
returns-clause-later g c = rw (← c.self.view_is) c.shorten-done.ensures.goes_on.later

pub returns-clause-halted : goal.returns-clause-halted
returns-clause-halted g c = rw (← c.self.view_is)
    (λ halted. absurd (halted (unhalted c.self.inside.halt (sym c.is_some.ensures ∙ c.if-is_some.false))))

pub returns-then-is_some-clause-compacted : goal.returns-then-is_some-clause-compacted
returns-then-is_some-clause-compacted g c = rw (← c.self.view_is)
    (λ none. absurd (is_halted _ (sym c.is_some.ensures ∙ c.if-is_some.true) none))

pub returns-then-is_some-clause-leaves : goal.returns-then-is_some-clause-leaves
returns-then-is_some-clause-leaves g c = rw (← c.self.view_is)
    (λ none. absurd (is_halted _ (sym c.is_some.ensures ∙ c.if-is_some.true) none))

pub returns-then-is_some-clause-halted : goal.returns-then-is_some-clause-halted
returns-then-is_some-clause-halted g c = rw (← c.self.view_is) (λ halted. (refl, refl))
