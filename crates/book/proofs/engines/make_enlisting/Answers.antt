-- The number that was drawn, or the refusal.
use Rattle.std.proofs.Common.{ap}
use Rattle.std.specs.Prelude.{Err, Ok}
use Rattle.book.proofs.Doing.{does_of, enlist_honest, enlist_step, made_honest, made_storable, not_both, same_refusal}
use Rattle.book.proofs.engines.make_enlisting.Goals as goal

pub make_step-requires-clause-storable : goal.make_step-requires-clause-storable
make_step-requires-clause-storable g c = made_storable _ c.requires.workable _ c.enlist-made.result
    (λ cs es k. enlist_step _ cs es k) c.enlist-made.ensures.made

pub make_step-requires-clause-honest : goal.make_step-requires-clause-honest
make_step-requires-clause-honest g c = made_honest _ c.enlist-made.result c.enlist-made.ensures.cause (enlist_honest _)

pub returns-in-Some : goal.returns-in-Some
returns-in-Some g c = does_of _ _ _ c.enlist-made.result _ _ _ _ _ _ _ _ c.make_step.result _ c.enlist-made.ensures.made
    c.enlist-made.ensures.cause c.make_step.ensures
    (made_honest _ c.enlist-made.result c.enlist-made.ensures.cause (enlist_honest _))
    (λ is. rw (← c.next.ensures, ← c.get.ensures.value) (ap Ok c.in-Some.ensures.1))
    (λ r no_. absurd (not_both c.make_step.result _ r c.in-Ok.is no_))

pub returns-in-Err : goal.returns-in-Err
returns-in-Err g c = does_of _ _ _ c.enlist-made.result _ _ _ _ _ _ _ _ c.make_step.result _ c.enlist-made.ensures.made
    c.enlist-made.ensures.cause c.make_step.ensures
    (made_honest _ c.enlist-made.result c.enlist-made.ensures.cause (enlist_honest _))
    (λ yes_. absurd (not_both c.make_step.result _ _ yes_ c.in-Err.is))
    (λ r is. ap Err (same_refusal c.make_step.result _ r c.in-Err.is is))
