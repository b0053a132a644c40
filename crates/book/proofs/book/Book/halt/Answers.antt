use Rattle.std.proofs.Common.{Some, ap, not, subst, sym, ◌∙◌}
use Rattle.book.specs.Halts.{MayHalt}
use Rattle.book.specs.Kept.{Shown}
use Rattle.book.proofs.Crashed.{left_outside}
use Rattle.book.proofs.Unhalted.{first_kept, first_made, halted_as, halted_still, held_outside, kept_outside}
use Rattle.book.proofs.Unhalted.{left_unhalted}
use Rattle.book.proofs.book.Book.halt.Goals as goal

pub invariant_of-self : goal.invariant_of-self
invariant_of-self g c =
    let none = c.is_none.ensures ∙ ap not c.if-is_none.true in (
      kept_outside _ _ _ _ _ _ _ none c.self.invariant.0,
      (
        held_outside _ _ _ _ _ _ _ none c.requires.outside c.self.invariant.1.0,
        (
          subst (λ (b : Shown g.row.K.Denot g.row.P.Denot). MayHalt g.K.Keeper.faults b (Some c.args.why))
              (sym c.self.view_is) c.requires.worn,
          left_outside _ _ _ _ _ _ _ _ c.requires.outside
              (left_unhalted _ _ _ _ _ _ _ _ none c.self.invariant.1.1.1),
        ),
      ),
    )

pub returns-then-is_none : goal.returns-then-is_none
returns-then-is_none g c = rw (← c.self.view_is) (halted_as {K = g.row.K.Denot} {P = g.row.P.Denot} _ _ _ _ _ _ _ _
    (first_made c.self.inside.halt c.args.why (c.is_none.ensures ∙ ap not c.if-is_none.true)))

pub returns-else-is_none : goal.returns-else-is_none
returns-else-is_none g c = rw (← c.self.view_is) (halted_still _ _
    (first_kept c.self.inside.halt c.args.why (c.is_none.ensures ∙ ap not c.if-is_none.false)))
