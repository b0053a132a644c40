use Rattle.snapshot_codec.proofs.Putting.{more_put}
use Rattle.snapshot_codec.proofs.puts.put_each.Goals as goal

pub loop-thing-preserved : goal.loop-thing-preserved
loop-thing-preserved g c = more_put g.T.Brought.bringing c.args.things.now c.loop-thing.thing-index c.thing-item.result
    c.args.sheet.now c.loop-thing.sheet c.put_bringing.new.sheet c.loop-thing-test.true c.thing-item.is
    c.loop-thing.invariant c.put_bringing.ensures.bytes c.put_bringing.ensures.proper
