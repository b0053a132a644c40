use Rattle.headline_reader.specs.Items.{HasItem}
use Rattle.headline_reader.proofs.Lists.{all_left}
use Rattle.headline_reader.proofs.fitting.have_all.Goals as goal

pub loop-item-preserved : goal.loop-item-preserved
loop-item-preserved c =
    all_left (HasItem c.args.plan.now c.args.all.now) c.args.items.now c.loop-item.item-index c.item-item.result
    c.loop-item-test.true c.item-item.is (c.in_ok-has_item.ensures.0 c.if-not-branch.false) c.loop-item.invariant
