use Rattle.std.proofs.Common.{refl}
use Rattle.std.proofs.lemmas.List.{take_all}
use Rattle.sync_points.proofs.Runs.{runs_none, runs_next}
use Rattle.sync_points.proofs.run.run_points.Goals as goal

pub loop-op-init : goal.loop-op-init
loop-op-init g c = runs_none c.args.ops.now _ _ _ c.new-answers.ensures refl

pub loop-op-preserved : goal.loop-op-preserved
loop-op-preserved g c = runs_next c.args.ops.now c.loop-op.op-index _ _ _ _ _ c.op-item.result c.in_ok-answer.answer c.loop-op-test.true c.op-item.is c.in_ok-push.ensures.ok c.loop-op.invariant
    c.in_ok-answer.ensures

pub returns : goal.returns
returns g c = rw (take_all c.loop-op.op-index c.args.ops.now c.loop-op-test.false) at c.loop-op.invariant
