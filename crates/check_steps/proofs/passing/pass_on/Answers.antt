use Rattle.std.proofs.Common.{◌≢◌, ◌<◌, ◌+◌, ◌^◌, ◌∙◌, [], List, ap, length, refl, subst, ℕ}
use Rattle.std.proofs.lemmas.Bool.{OnFalse_at, OnTrue_at, iff_false}
use Rattle.core_state.specs.declared.numbers.Numbers.{Numbers}
use Rattle.check_steps.specs.Makes.{worn}
use Rattle.check_steps.proofs.Worn.{draw_worn, drawn_worn, letters_length, room_kept, unlock_worn}
use Rattle.check_steps.proofs.passing.pass_on.Goals as goal

pub returns-then-not-can_number-clause-cause : goal.returns-then-not-can_number-clause-cause
returns-then-not-can_number-clause-cause c =
    let (some, many) = OnFalse_at c.if-not-can_number.true c.can_number.ensures.many in
    worn refl (draw_worn c.args.s.now.state.next c.args.passed.now.fresh.stack.now c.args.passed.now.ready _
    (subst (λ (ns : List ℕ). ns ≢ []) c.as_slice.ensures some)
    (subst (λ (ns : List ℕ). 2 ^ 62 < c.args.s.now.state.next.letter + length ns) c.as_slice.ensures
    (subst (λ (n : Numbers). 2 ^ 62 < n.letter + length c.as_slice.result.now) c.next.ensures many)))

pub returns-then-not-may_all_rise-clause-cause : goal.returns-then-not-may_all_rise-clause-cause
returns-then-not-may_all_rise-clause-cause c =
    worn refl (drawn_worn _ _ _ (unlock_worn c.args.passed.now.fresh.row _
    (iff_false c.may_all_rise.ensures c.if-not-may_all_rise.true)))

pub changes_of-requires-clause-room : goal.changes_of-requires-clause-room
changes_of-requires-clause-room c =
    room_kept c.next.result.now c.args.s.now.state.next c.as_slice.result.now c.args.passed.now.ready
    c.as_slice-3.result.now
    c.next.ensures c.as_slice.ensures
    (ap length (c.as_slice-3.ensures ∙ c.in_ok-letters.ensures) ∙
    (letters_length c.args.passed.now.fresh.stack.now _ c.as_slice-2.result.now ∙ ap length c.as_slice-2.ensures))
    (OnTrue_at c.if-not-can_number.false c.can_number.ensures.room)
