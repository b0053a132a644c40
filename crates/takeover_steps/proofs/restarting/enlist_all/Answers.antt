use Rattle.takeover_steps.proofs.EngineLemmas.{enlisted, some_new}
use Rattle.takeover_steps.proofs.restarting.enlist_all.Goals as goal

pub loop-i-preserved : goal.loop-i-preserved
loop-i-preserved c = rw (c.in_ok-push.ensures.ok)
    (enlisted c.loop-i.changes _ c.get-first.result c.loop-i.i c.args.count c.unwrap.result c.loop-i-test.true
    (some_new _ _ _ _ c.new.ensures c.unwrap.ensures) c.loop-i.invariant)
