use Rattle.std.proofs.Common.{◌∙◌, take, sym, ap, subst, arith}
use Rattle.sync_points.specs.Numbers.{AreNumbered, fresh_point}
use Rattle.sync_points.proofs.Places.{fresh_more, fresh_numbered}
use Rattle.sync_points.proofs.table.SyncPoints.new.Goals as goal

pub loop-place-preserved : goal.loop-place-preserved
loop-place-preserved c =
    fresh_more c.args.stack.now c.args.preds.now c.loop-place.place c.index-preds-place.result _ _ _ (omega (arith, c.loop-place-test.true, c.loop-place.auto.place-end)) c.index-preds-place.is
    c.loop-place.invariant c.in_ok-push.ensures.items (c.new.ensures ∙ c.in_ok-point.ensures ∙ ap (fresh_point c.args.stack.now c.loop-place.place) c.as_slice.ensures)

pub invariant_of-result : goal.invariant_of-result
invariant_of-result c = subst (AreNumbered 0) (sym c.loop-place.invariant) (fresh_numbered c.args.stack.now 0 (take c.loop-place.place c.args.preds.now))
