use Rattle.std.proofs.Common.{◌∙◌, sym}
use Rattle.hot_functions.proofs.Stops.{among_stop}
use Rattle.hot_functions.proofs.argument.are_among.Goals as goal

pub returns-then-not-is_known : goal.returns-then-not-is_known
returns-then-not-is_known c =
    sym (c.loop-member.invariant ∙ among_stop _ _ _ c.member-item.result c.loop-member-test.true c.member-item.is
    (sym c.is_known.ensures ∙ c.if-not-is_known.true))
