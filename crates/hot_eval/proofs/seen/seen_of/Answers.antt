use Rattle.hot_eval.proofs.Seeing.{see_next}
use Rattle.hot_eval.proofs.seen.seen_of.Goals as goal

pub loop-value-preserved : goal.loop-value-preserved
loop-value-preserved c =
    let told = c.in_ok-see.ensures _ c.loop-value.invariant in
    see_next c.see.new.seen c.args.values.now c.loop-value.value-index c.value-item.result c.loop-value-test.true
    c.value-item.is told.1
