use Rattle.std.proofs.Common.{refl}
use Rattle.opening_check.proofs.ShownLemmas.{told_ready, ready_tells}
use Rattle.opening_check.proofs.rows.is_ready.Goals as goal

-- src/rows.rt:86:1
pub returns-then-is_alive_as : goal.returns-then-is_alive_as
returns-then-is_alive_as c leaving = (
  λ h. told_ready c.args.row.now _ ((c.if-is_alive_as.ensures leaving).0 refl) ((c.has_facts.ensures leaving).0 h),
  λ is. (c.has_facts.ensures leaving).1 (ready_tells c.args.row.now _ is),
)
