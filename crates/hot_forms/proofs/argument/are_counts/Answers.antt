use Rattle.std.proofs.Common.{◌∙◌, sym}
use Rattle.hot_forms.proofs.Stops.{counts_stop}
use Rattle.hot_forms.proofs.argument.are_counts.Goals as goal

pub returns-then-not-is_count : goal.returns-then-not-is_count
returns-then-not-is_count c =
    sym (c.loop-bound.invariant ∙ counts_stop _ _ c.bound-item.result c.loop-bound-test.true c.bound-item.is
    (sym c.is_count.ensures ∙ c.if-not-is_count.true))
