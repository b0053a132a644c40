use Rattle.std.proofs.Common.{◌∙◌, sym}
use Rattle.hot_forms.proofs.Stops.{parts_stop}
use Rattle.hot_forms.proofs.constraint.has_no_more.Goals as goal

pub returns-then-not-is_part : goal.returns-then-not-is_part
returns-then-not-is_part c =
    sym (c.loop-member.invariant ∙ parts_stop _ _ c.member-item.result c.loop-member-test.true c.member-item.is
    (sym c.is_part.ensures ∙ c.if-not-is_part.true))
