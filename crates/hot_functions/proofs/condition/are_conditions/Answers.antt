use Rattle.std.proofs.Common.{◌∙◌, sym}
use Rattle.hot_functions.proofs.Stops.{conditions_stop}
use Rattle.hot_functions.proofs.condition.are_conditions.Goals as goal

pub returns-then-not-is_condition : goal.returns-then-not-is_condition
returns-then-not-is_condition c =
    sym (c.loop-value.invariant ∙ conditions_stop _ _ c.value-item.result c.loop-value-test.true c.value-item.is
    (sym c.is_condition.ensures ∙ c.if-not-is_condition.true))
