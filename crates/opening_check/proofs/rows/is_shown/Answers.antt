use Rattle.opening_check.proofs.ShownLemmas.{begun, complete_shown}
use Rattle.opening_check.proofs.rows.is_shown.Goals as goal

-- src/rows.rt:90:1
pub returns-in-Create : goal.returns-in-Create
returns-in-Create c leaving = (
  λ h. complete_shown c.args.row.now _ c.in-Complete.is ((c.is_ready.ensures leaving).0 h),
  λ is. (c.is_ready.ensures leaving).1 (is.ready c.in-Complete.is (begun c.args.row.now.act c.in-Create.is)),
)
