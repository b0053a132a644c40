-- A note is one entry more.
use Rattle.std.proofs.Common.{List, [], ap, refl, sym, ◌++◌, ◌∙◌, ◌∷◌}
use Rattle.core_state.specs.declared.entry.Actor.TheVariants.{Main}
use Rattle.core_state.specs.declared.entry.Entry.{Entry}
use Rattle.book.proofs.Crashing.{left_noted}
use Rattle.book.proofs.Growing.{kept_noted}
use Rattle.book.proofs.Recorded.{recorded_note, recorded_still}
use Rattle.book.proofs.Unhalted.{halt_again, held_unhalted, is_halted, kept_unhalted, left_again, left_unhalted}
use Rattle.book.proofs.book.Book.note.Goals as goal

pub invariant_of-self-2 : goal.invariant_of-self-2
invariant_of-self-2 g c =
    let none = sym c.is_some.ensures ∙ c.if-is_some.false in (
      halt_again _ _ _ _ _ _ none
          (kept_noted _ _ _ _ _ _ c.args.what c.requires (kept_unhalted _ _ _ _ _ _ none c.self.invariant.0)
          (c.push.ensures.items ∙ ap (λ (h : List Entry). h ++ record {
            by = Main;
            what = c.args.what;
          } ∷ []) c.reserve.ensures.same)),
      (
        c.self.invariant.1.0,
        (
          c.self.invariant.1.1.0,
          left_again _ _ _ _ _ _ _ _ none
              (left_noted _ _ _ _ _ _ (g.met.K.Keeper.lawful _) _ _ _ refl
              ((held_unhalted _ _ _ _ _ _ none c.self.invariant.1.0).stands (λ is. cc))
              (kept_unhalted _ _ _ _ _ _ none c.self.invariant.0)
              (left_unhalted _ _ _ _ _ _ _ _ none c.self.invariant.1.1.1) _ c.args.what c.requires
              (c.push.ensures.items ∙ ap (λ (h : List Entry). h ++ record {
                by = Main;
                what = c.args.what;
              } ∷ []) c.reserve.ensures.same)),
        ),
      ),
    )

pub returns-then-is_some-clause-records : goal.returns-then-is_some-clause-records
returns-then-is_some-clause-records g c = rw (← c.self.view_is)
    (λ none. absurd (is_halted _ (sym c.is_some.ensures ∙ c.if-is_some.true) none))

pub returns-in_err-reserve-clause-records : goal.returns-in_err-reserve-clause-records
returns-in_err-reserve-clause-records g c = rw (← c.self.view_is) (λ none. recorded_still _ _ _ _
    c.self.invariant.0.agrees _ (g.met.K.Keeper.lawful _)
    ((held_unhalted _ _ _ _ _ _ (sym c.is_some.ensures ∙ c.if-is_some.false) c.self.invariant.1.0).stands (λ is. cc))
    (rw c.reserve.ensures.same refl))

pub returns-clause-records : goal.returns-clause-records
returns-clause-records g c = rw (← c.self.view_is) (λ none. recorded_note _ _ _ _
    c.self.invariant.0.agrees _ (g.met.K.Keeper.lawful _)
    ((held_unhalted _ _ _ _ _ _ (sym c.is_some.ensures ∙ c.if-is_some.false) c.self.invariant.1.0).stands (λ is. cc))
    c.args.what c.requires (rw (c.push.ensures.items, c.reserve.ensures.same) refl))
