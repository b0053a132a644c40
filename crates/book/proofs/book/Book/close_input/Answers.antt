-- The input is closed, or nothing changes.
use Rattle.std.proofs.Common.{ap, not, refl, ◌∙◌}
use Rattle.book.proofs.Crashing.{left_closed}
use Rattle.book.proofs.Growing.{kept_closed}
use Rattle.book.proofs.Recorded.{recorded_close}
use Rattle.book.proofs.Unhalted.{halt_again, held_unhalted, is_halted, kept_unhalted, left_again, left_unhalted}
use Rattle.book.proofs.book.Book.close_input.Goals as goal

pub invariant_of-self : goal.invariant_of-self
invariant_of-self g c =
    let none = c.is_none.ensures ∙ ap not c.if-is_none.true in
    let kept = kept_unhalted _ _ _ _ _ _ none c.self.invariant.0 in (
      halt_again _ _ _ _ _ _ none (kept_closed _ _ _ _ _ _ kept c.close.ensures),
      (
        c.self.invariant.1.0,
        (
          c.self.invariant.1.1.0,
          left_again _ _ _ _ _ _ _ _ none
              (left_closed _ _ _ _ _ _ (g.met.K.Keeper.lawful _) _ _ _ refl
              ((held_unhalted _ _ _ _ _ _ none c.self.invariant.1.0).stands (λ is. cc)) kept
              (left_unhalted _ _ _ _ _ _ _ _ none c.self.invariant.1.1.1) _ c.close.ensures),
        ),
      ),
    )

pub returns-then-is_none-clause-records : goal.returns-then-is_none-clause-records
returns-then-is_none-clause-records g c = rw (← c.self.view_is) (λ none. recorded_close _ _ _ _
    c.self.invariant.0.agrees _ (g.met.K.Keeper.lawful _)
    ((held_unhalted _ _ _ _ _ _ (c.is_none.ensures ∙ ap not c.if-is_none.true) c.self.invariant.1.0).stands (λ is. cc))
    _ c.close.ensures refl)

pub returns-else-is_none-clause-records : goal.returns-else-is_none-clause-records
returns-else-is_none-clause-records g c = rw (← c.self.view_is)
    (λ none. absurd (is_halted _ (c.is_none.ensures ∙ ap not c.if-is_none.false) none))
