use Rattle.std.proofs.Common.{refl}
use Rattle.step_relation.specs.Turns.{engine, letter, row, stack, trav}
use Rattle.step_parts.proofs.WearLemmas.{last_overflows}
use Rattle.step_parts.proofs.wear.are_worn.Goals as goal

pub returns-then-is_past : goal.returns-then-is_past
returns-then-is_past c = (λ t. stack _ (c.is_past.ensures.0 c.if-is_past.true), λ o. refl)

pub returns-then-is_past-2 : goal.returns-then-is_past-2
returns-then-is_past-2 c = (λ t. trav _ (c.is_past-2.ensures.0 c.if-is_past-2.true), λ o. refl)

pub returns-then-is_past-3 : goal.returns-then-is_past-3
returns-then-is_past-3 c = (λ t. row _ (c.is_past-3.ensures.0 c.if-is_past-3.true), λ o. refl)

pub returns-then-is_past-4 : goal.returns-then-is_past-4
returns-then-is_past-4 c = (λ t. engine _ (c.is_past-4.ensures.0 c.if-is_past-4.true), λ o. refl)

pub returns : goal.returns
returns c = (
  λ t. letter _ (c.is_past-5.ensures.0 t),
  λ o.
      c.is_past-5.ensures.1 (last_overflows _ _ _ _ _ c.is_past.ensures.1 c.if-is_past.false c.is_past-2.ensures.1 c.if-is_past-2.false
      c.is_past-3.ensures.1 c.if-is_past-3.false c.is_past-4.ensures.1 c.if-is_past-4.false o),
)
