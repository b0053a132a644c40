-- Those that waited were placed, as all are.
use Rattle.std.proofs.Common.{length, refl}
use Rattle.hot_admit.proofs.Waits.{listed_placed, placed_with}
use Rattle.hot_admit.proofs.waiting.Waiting.wake.Goals as goal

pub loop-due-preserved : goal.loop-due-preserved
loop-due-preserved c = (
  refl,
  placed_with (length c.self.inside.lists.items) _ _ _ _ (rw c.loop-due.invariant.0 at c.loop-due.invariant.1) c.in_ok-insert.ensures.keys
      (listed_placed _ c.self.inside.lists.items c.args.place c.loop-due.due-index c.index.result.now
      c.deref-due-items.result.now _ c.self.invariant.0 (rw c.self.view_is c.requires) c.index.ensures
      c.deref-due-items.ensures.value c.loop-due-test.true),
)
