use Rattle.std.proofs.Common.{◌<◌, ◌+◌, ◌^◌, refl, subst}
use Rattle.std.proofs.lemmas.Bool.{iff_false}
use Rattle.core_state.specs.declared.numbers.Numbers.{Numbers}
use Rattle.step_relation.specs.Turns.{key, row}
use Rattle.check_steps.specs.Makes.{worn}
use Rattle.check_steps.proofs.Worn.{cannot_rise, no_room, worn_first, worn_later}
use Rattle.check_steps.proofs.replacing.replace.Goals as goal

pub returns-then-not-has_room-clause-cause : goal.returns-then-not-has_room-clause-cause
returns-then-not-has_room-clause-cause c =
    let past = no_room c.next.result.now.row 1 (iff_false c.has_room.ensures c.if-not-has_room.true) in
    worn refl (worn_first _ _ (row _ (subst (λ (n : Numbers). 2 ^ 62 < n.row + 1) c.next.ensures past)))

pub returns-then-not-may_rise-clause-cause : goal.returns-then-not-may_rise-clause-cause
returns-then-not-may_rise-clause-cause c =
    worn refl (worn_later _ _ (worn_later _ _ (worn_first _ _
    (key _ (cannot_rise c.args.found.now.row.now (iff_false c.may_rise.ensures c.if-not-may_rise.true))))))
