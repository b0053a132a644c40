use Rattle.std.proofs.Common.{◌∙◌, sym}
use Rattle.hot_eval.proofs.Sames.{has_stop}
use Rattle.hot_eval.proofs.lists.has.Goals as goal

pub returns-then-are_one : goal.returns-then-are_one
returns-then-are_one c =
    sym (c.loop-item.invariant ∙ has_stop _ _ _ c.item-item.result c.loop-item-test.true c.item-item.is
    (sym c.are_one.ensures ∙ c.if-are_one.true))
