use Rattle.std.proofs.Common.{◌∙◌, ap, arith}
use Rattle.sync_points.specs.Numbers.{fresh_point}
use Rattle.sync_points.proofs.Places.{fresh_more}
use Rattle.sync_points.proofs.list_points.ListPoints.new.Goals as goal

pub loop-place-preserved : goal.loop-place-preserved
loop-place-preserved c =
    fresh_more c.args.stack.now c.args.preds.now c.loop-place.place c.index-preds-place.result _ _ _ (omega (arith, c.loop-place-test.true, c.loop-place.auto.place-end)) c.index-preds-place.is
    c.loop-place.invariant c.in_ok-push.ensures.items (c.in_ok-point.ensures ∙ ap (fresh_point c.args.stack.now c.loop-place.place) c.as_slice.ensures)
