-- Each item is sought among the members' strings.
use Rattle.std.proofs.Common.{◌∙◌, sym}
use Rattle.hot_params.proofs.Allowed.{goes_on, ends}
use Rattle.hot_params.proofs.values.are_among.Goals as goal

pub loop-value-preserved : goal.loop-value-preserved
loop-value-preserved c =
    goes_on c.args.allowed.now c.in_ok-strings.strings.items c.args.items.now c.as_slice-value-items.result.now
    c.loop-value.value-index c.value-item.result c.in_ok-strings.ensures.exact c.loop-value.invariant
    c.loop-value-test.true c.value-item.is
    (rw c.as_slice.ensures.value at (sym c.is_one_of.ensures ∙ c.if-not-is_one_of.false))

pub returns-then-not-is_one_of : goal.returns-then-not-is_one_of
returns-then-not-is_one_of c =
    ends c.args.allowed.now c.in_ok-strings.strings.items c.args.items.now c.as_slice-value-items.result.now
    c.loop-value.value-index c.value-item.result c.in_ok-strings.ensures.exact c.loop-value.invariant
    c.loop-value-test.true c.value-item.is
    (rw c.as_slice.ensures.value at (sym c.is_one_of.ensures ∙ c.if-not-is_one_of.true))
