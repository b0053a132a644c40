use Rattle.std.proofs.Common.{sym}
use Rattle.state_images.specs.Ties.{IsTiedRow}
use Rattle.state_images.proofs.Listed.{all_more}
use Rattle.state_images.proofs.records.rows_are_tied.Goals as goal

pub loop-row-preserved : goal.loop-row-preserved
loop-row-preserved c = all_more (IsTiedRow c.args.s.now.state) c.args.rows.now c.loop-row.row-index c.row-item.result
    c.loop-row-test.true (sym c.row-item.is) (c.is_tied_row.ensures.0 c.if-not-is_tied_row.false) c.loop-row.invariant
