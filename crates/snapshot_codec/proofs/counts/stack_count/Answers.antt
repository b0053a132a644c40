use Rattle.snapshot_codec.proofs.Putting.{graphs_aligned}
use Rattle.snapshot_codec.proofs.counts.stack_count.Goals as goal

pub point_count-points-requires : goal.point_count-points-requires
point_count-points-requires c = graphs_aligned c.args.s.now.state c.graphs.result.now c.requires c.graphs.ensures
