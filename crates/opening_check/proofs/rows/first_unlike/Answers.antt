use Rattle.std.proofs.Common.{◌≡◌, List, Some, refl, length, slice_get, subst}
use Rattle.std.proofs.lemmas.Option.{slice_get_read}
use Rattle.row_table.specs.declared.row.Row.{Row}
use Rattle.opening_check.proofs.RowsLemmas.{lowest_next}
use Rattle.opening_check.proofs.rows.first_unlike.Goals as goal

-- src/rows.rt:29:5
pub loop-seen-preserved : goal.loop-seen-preserved
loop-seen-preserved c = lowest_next c.args.all.now c.args.s.now.state.rows c.loop-seen.seen-index c.seen-item.result
    (subst (λ (rows : List Row). slice_get rows c.loop-seen.seen-index ≡ Some c.seen-item.result) c.rows-seen-items.ensures
    (slice_get_read c.rows-seen-items.result.now (length c.rows-seen-items.result.now) c.loop-seen.seen-index c.seen-item.result refl
    c.loop-seen-test.true c.seen-item.is))
    c.loop-seen.first c.in_ok-first.first c.in_ok-first.ensures c.loop-seen.invariant
