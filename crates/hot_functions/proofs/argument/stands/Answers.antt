use Rattle.std.proofs.Common.{◌∙◌, sym}
use Rattle.hot_functions.proofs.Stops.{stands_stop}
use Rattle.hot_functions.proofs.argument.stands.Goals as goal

pub returns-then-is_under : goal.returns-then-is_under
returns-then-is_under c =
    sym (c.loop-member.invariant ∙ stands_stop _ _ _ c.member-item.result c.loop-member-test.true c.member-item.is
    (sym c.is_under.ensures ∙ c.if-is_under.true))
