use Rattle.std.proofs.Common.{◌++◌, [], ◌∷◌, List, ℕ, refl, sym, ◌∙◌, ap, arith}
use Rattle.row_journal.specs.Forms.{IsSized}
use Rattle.row_journal.specs.declared.place.Place.{Place}
use Rattle.row_journal.specs.Ends.{with_next}
use Rattle.row_journal.proofs.Next.{body_at}
use Rattle.row_journal.proofs.journal.Journal.append.Goals as goal

pub returns-in_err-add_record-clause-any_moment : goal.returns-in_err-add_record-clause-any_moment
returns-in_err-add_record-clause-any_moment g c =
    let two = rw (← c.self.view_is) at c.requires.version in
    let small : IsSized c.args.bytes.now = omega (arith, c.requires.reserved.end) in
    rw (← c.self.view_is) (λ tells image is ready. c.add_record.ensures.any_moment tells image c.args.bytes.now is ready small
    (c.as_slice.ensures ∙ c.fill.ensures.bytes ∙ ap (λ (l : List ℕ). l ++ 0 ∷ []) (body_at c.self.inside.place image c.args.bytes.now is two)))

pub returns-in_err-add_record-clause-unsynced : goal.returns-in_err-add_record-clause-unsynced
returns-in_err-add_record-clause-unsynced g c =
    let two = rw (← c.self.view_is) at c.requires.version in
    let small : IsSized c.args.bytes.now = omega (arith, c.requires.reserved.end) in
    rw (← c.self.view_is) (λ tells image is ready. c.add_record.ensures.unsynced tells image c.args.bytes.now is ready small
    (c.as_slice.ensures ∙ c.fill.ensures.bytes ∙ ap (λ (l : List ℕ). l ++ 0 ∷ []) (body_at c.self.inside.place image c.args.bytes.now is two)))

pub returns-clause-any_moment : goal.returns-clause-any_moment
returns-clause-any_moment g c =
    let two = rw (← c.self.view_is) at c.requires.version in
    let small : IsSized c.args.bytes.now = omega (arith, c.requires.reserved.end) in
    rw (← c.self.view_is) (λ tells image is ready. c.add_record.ensures.any_moment tells image c.args.bytes.now is ready small
    (c.as_slice.ensures ∙ c.fill.ensures.bytes ∙ ap (λ (l : List ℕ). l ++ 0 ∷ []) (body_at c.self.inside.place image c.args.bytes.now is two)))

pub returns-clause-unsynced : goal.returns-clause-unsynced
returns-clause-unsynced g c =
    let two = rw (← c.self.view_is) at c.requires.version in
    let small : IsSized c.args.bytes.now = omega (arith, c.requires.reserved.end) in
    rw (← c.self.view_is) (λ tells image is ready. c.add_record.ensures.unsynced tells image c.args.bytes.now is ready small
    (c.as_slice.ensures ∙ c.fill.ensures.bytes ∙ ap (λ (l : List ℕ). l ++ 0 ∷ []) (body_at c.self.inside.place image c.args.bytes.now is two)))

pub invariant_of-self-2 : goal.invariant_of-self-2
invariant_of-self-2 g c kept told =
    let tells = sym c.add_record.ensures.tells ∙ told in
    let two = rw (← c.self.view_is) at c.requires.version in
    let going = rw (← c.self.view_is) at c.requires.going in
    let small : IsSized c.args.bytes.now = omega (arith, c.requires.reserved.end) in
    let it = c.self.invariant going tells in
    record {
      image = with_next it.image c.args.bytes.now;
      numbers = c.next-self-inside.ensures.next it.image c.args.bytes.now it.numbers (sym (ap (λ (p : Place). p.version) it.numbers) ∙ two) refl;
      ready = c.in_ok-add_record.ensures.ready tells it.image c.args.bytes.now it.numbers it.ready small
          (c.as_slice.ensures ∙ c.fill.ensures.bytes ∙ ap (λ (l : List ℕ). l ++ 0 ∷ []) (body_at c.self.inside.place it.image c.args.bytes.now it.numbers two));
    }
