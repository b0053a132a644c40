use Rattle.std.proofs.Common.{◌∙◌, sym}
use Rattle.hot_functions.proofs.Stops.{object_stop}
use Rattle.hot_functions.proofs.argument.holds_object.Goals as goal

pub returns-then-is_object_under : goal.returns-then-is_object_under
returns-then-is_object_under c =
    sym (c.loop-member.invariant ∙ object_stop _ _ _ c.member-item.result c.loop-member-test.true c.member-item.is
    (sym c.is_object_under.ensures ∙ c.if-is_object_under.true))
