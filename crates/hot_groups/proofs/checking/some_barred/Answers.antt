use Rattle.hot_groups.proofs.Numbered.{barred_later}
use Rattle.hot_groups.proofs.checking.some_barred.Goals as goal

pub loop-i-preserved : goal.loop-i-preserved
loop-i-preserved c =
    barred_later c.args.resources.now c.args.group.now c.loop-i.i c.args.count _ _ _ c.loop-i-test.true
    c.in_ok-name.ensures c.is_barred.ensures c.if-is_barred.false c.loop-i.invariant
