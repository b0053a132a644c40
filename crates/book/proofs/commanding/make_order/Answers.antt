-- The traversal that was drawn, or the refusal.
use Rattle.std.proofs.Common.{ap, ◌∙◌}
use Rattle.std.specs.Prelude.{Err, Ok}
use Rattle.core_state.specs.declared.numbers.Numbers.{Numbers}
use Rattle.book.proofs.Doing.{does_of, drawn_below, made_below, made_honest, made_storable, no_number, not_both}
use Rattle.book.proofs.Doing.{order_honest, order_step, same_refusal}
use Rattle.book.proofs.commanding.make_order.Goals as goal

pub make_step-requires-clause-storable : goal.make_step-requires-clause-storable
make_step-requires-clause-storable g c = made_storable _ c.requires.workable _ c.order_of-made.result
    (λ cs es k. order_step _ c.args.command cs es k) c.order_of-made.ensures.made

pub make_step-requires-clause-honest : goal.make_step-requires-clause-honest
make_step-requires-clause-honest g c = made_honest _ c.order_of-made.result c.order_of-made.ensures.cause
    (order_honest _ c.args.command)

pub unreachable-requires : goal.unreachable-requires
unreachable-requires g c =
    let below = made_below _ _ c.order_of-made.result _ _ c.make_step.result
    (λ cs es k. drawn_below _ c.args.command cs es k)
    c.order_of-made.ensures.made c.make_step.ensures.does c.in-Ok.is in
    no_number c.get.result _ (c.get.ensures.value ∙ ap (λ (n : Numbers). n.trav) c.next.ensures)
    (rw (← c.next.ensures) c.get.ensures.range.0) below c.in-None.ensures

pub returns-in-Some : goal.returns-in-Some
returns-in-Some g c = does_of _ _ _ c.order_of-made.result _ _ _ _ _ _ _ _ c.make_step.result _
    c.order_of-made.ensures.made c.order_of-made.ensures.cause c.make_step.ensures
    (made_honest _ c.order_of-made.result c.order_of-made.ensures.cause (order_honest _ c.args.command))
    (λ is. rw (← c.next.ensures, ← c.get.ensures.value) (ap Ok c.in-Some.ensures.1))
    (λ r no_. absurd (not_both c.make_step.result _ r c.in-Ok.is no_))

pub returns-in-Err : goal.returns-in-Err
returns-in-Err g c = does_of _ _ _ c.order_of-made.result _ _ _ _ _ _ _ _ c.make_step.result _
    c.order_of-made.ensures.made c.order_of-made.ensures.cause c.make_step.ensures
    (made_honest _ c.order_of-made.result c.order_of-made.ensures.cause (order_honest _ c.args.command))
    (λ yes_. absurd (not_both c.make_step.result _ _ yes_ c.in-Err.is))
    (λ r is. ap Err (same_refusal c.make_step.result _ r c.in-Err.is is))
