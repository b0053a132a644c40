use Rattle.std.proofs.lemmas.List.{get_or_default}
use Rattle.step_reads.proofs.GatherLemmas.{points_more}
use Rattle.step_reads.proofs.points.points_passed.Goals as goal

pub loop-succ-preserved : goal.loop-succ-preserved
loop-succ-preserved c = rw (c.in_ok-push-2.ensures.ok, c.in_ok-point_with.ensures)
    (points_more c.args.graph.now c.args.node c.args.input.now c.args.succs.now c.loop-succ.succ-index _
    c.loop-succ.points c.loop-succ-test.true
    (get_or_default c.args.succs.now c.loop-succ.succ-index 0 _ c.loop-succ-test.true) c.loop-succ.invariant)
