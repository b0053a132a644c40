use Rattle.heat_value.specs.Meaning.{data_of}
use Rattle.hot_eval.proofs.Joins.{all_new}
use Rattle.hot_eval.proofs.Places.{refs_at, refs_end}
use Rattle.hot_eval.proofs.Seeing.{new_start, seen_next}
use Rattle.hot_eval.proofs.lists.new_ones.Goals as goal

pub loop-value-init : goal.loop-value-init
loop-value-init c = new_start c.new-seen.result c.new-items.result _ c.new-items.ensures c.new-seen.ensures.empty

pub loop-value-preserved : goal.loop-value-preserved
loop-value-preserved c =
    let more = c.in_ok-add_new.ensures c.loop-value.invariant.1 in (
      seen_next c.loop-value.items c.add_new.new.items _ _ _ (data_of c.value-item.result.now)
          (refs_at c.args.values.now c.loop-value.value-index c.value-item.result _ c.loop-value-test.true c.value-item.is)
          more.1 c.loop-value.invariant.0,
      more.0,
    )

pub returns : goal.returns
returns c = all_new _ _ _ (refs_end c.args.values.now _ c.loop-value-test.false) c.loop-value.invariant.0
