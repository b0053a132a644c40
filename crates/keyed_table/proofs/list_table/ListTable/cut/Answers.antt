use Rattle.std.proofs.Common.{◌≤◌, ◌-◌, ◌∙◌, length, sym, arith}
use Rattle.keyed_table.proofs.Cuts.{cut-none, cut-hit_at, cut-miss_at}
use Rattle.keyed_table.proofs.list_table.ListTable.cut.Goals as goal

pub loop-at-init : goal.loop-at-init
loop-at-init g c = (rw (c.as_slice-at.ensures, ← c.self.view_is) (cut-none g.T.Keyed.same g.T.Keyed.key_of c.args.key.now c.self.inside.all.items), rw (← c.self.view_is) (omega arith))

pub loop-at-preserved-then-has_key : goal.loop-at-preserved-then-has_key
loop-at-preserved-then-has_key g c =
    let le : c.loop-at.at ≤ length c.args.self.now.items = rw (← c.self.view_is, ← c.as_slice-at.ensures) c.loop-at.auto.at in (
      c.remove.ensures.rest ∙ cut-hit_at g.T.Keyed.same g.T.Keyed.key_of c.args.key.now c.args.self.now.items _ c.loop-at.at (c.loop-at.at - 1) c.index-as_slice-at.result
          (omega (arith, c.loop-at-test.true)) c.loop-at.invariant.0 (omega (arith, c.loop-at-test.true))
          (rw (← c.as_slice.ensures) c.index-as_slice-at.is) (sym c.has_key.ensures ∙ c.if-has_key.true),
      omega (arith, c.loop-at.invariant.1, c.remove.ensures.room),
    )

pub loop-at-preserved : goal.loop-at-preserved
loop-at-preserved g c =
    let le : c.loop-at.at ≤ length c.args.self.now.items = rw (← c.self.view_is, ← c.as_slice-at.ensures) c.loop-at.auto.at in (
      cut-miss_at g.T.Keyed.same g.T.Keyed.key_of c.args.key.now c.args.self.now.items _ c.loop-at.at (c.loop-at.at - 1) c.index-as_slice-at.result
          (omega (arith, c.loop-at-test.true)) c.loop-at.invariant.0 (omega (arith, c.loop-at-test.true))
          (rw (← c.as_slice.ensures) c.index-as_slice-at.is) (sym c.has_key.ensures ∙ c.if-has_key.false),
      c.loop-at.invariant.1,
    )
