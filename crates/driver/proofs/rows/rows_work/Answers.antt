-- A row after the other.
use Rattle.std.proofs.Common.{List, arith, refl, subst, ℕ, ◌*◌, ◌+◌}
use Rattle.std.specs.Prelude.{nat_eq}
use Rattle.std.proofs.lemmas.Bool.Decides.{Decides-eqb}
use Rattle.row_table.specs.Rows.{row_key}
use Rattle.driver.proofs.Records.{row_rolls}
use Rattle.driver.proofs.Listed.{found_here, keys_all, keys_here, new_here}
use Rattle.driver.proofs.Tables.{RowsSeen, rows_all, rows_more}
use Rattle.driver.proofs.rows.rows_work.Goals as goal

pub loop-row-preserved : goal.loop-row-preserved
loop-row-preserved c = (
  subst (λ (keys : List ℕ). RowsSeen c.args.s.now.state keys (c.loop-row.sum + 69 * c.roll_one.result))
      (keys_here nat_eq Decides-eqb row_key c.rows-row-items.result.now c.loop-row.row-index c.row-item.result
      c.loop-row-test.true c.row-item.is)
      (rows_more c.args.s.now.state _ _ _ _ _ c.loop-row.invariant.0
      (new_here nat_eq Decides-eqb row_key c.rows-row-items.result.now c.args.s.now.state.rows c.loop-row.row-index
      c.row-item.result c.rows-row-items.ensures c.loop-row-test.true c.row-item.is c.requires.rows)
      (row_rolls c.args.s.now.state c.row-item.result c.roll_one.result
      (found_here nat_eq Decides-eqb row_key c.rows-row-items.result.now
      c.args.s.now.state.rows c.loop-row.row-index c.row-item.result c.rows-row-items.ensures c.loop-row-test.true
      c.row-item.is c.requires.rows)
      c.roll_one.ensures.exact) refl),
  (let a = c.loop-row.invariant.1 in let b = c.roll_one.ensures.bound in omega (arith, a, b)),
)

pub returns-clause-exact : goal.returns-clause-exact
returns-clause-exact c = rows_all c.args.s.now.state c.loop-row.sum
    (subst (λ (keys : List ℕ). RowsSeen c.args.s.now.state keys c.loop-row.sum)
    (keys_all nat_eq Decides-eqb row_key c.rows-row-items.result.now c.args.s.now.state.rows c.loop-row.row-index
    c.rows-row-items.ensures c.loop-row-test.false) c.loop-row.invariant.0)
