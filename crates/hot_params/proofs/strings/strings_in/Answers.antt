use Rattle.hot_params.proofs.Allowed.{next_string}
use Rattle.hot_params.proofs.strings.strings_in.Goals as goal

pub loop-value-preserved : goal.loop-value-preserved
loop-value-preserved c =
    next_string c.as_slice-value-items.result.now c.loop-value.value-index c.value-item.result c.loop-value.strings.items
    c.add_string.new.strings.items _ c.loop-value-test.true c.value-item.is c.in_ok-add_string.ensures
    c.loop-value.invariant
