use Rattle.snapshot_codec.proofs.Putting.{then_put}
use Rattle.snapshot_codec.proofs.puts.put_snapshot.Goals as goal

pub returns-clause-proper : goal.returns-clause-proper
returns-clause-proper c = (then_put c.put_stacks.ensures (then_put c.put_work.ensures c.put_last.ensures)).kept
