use Rattle.std.proofs.Common.{refl}
use Rattle.check_steps.proofs.Resolving.{given_over, prepared_as}
use Rattle.check_steps.proofs.preparing.prepare.Goals as goal

pub returns-in-Plain : goal.returns-in-Plain
returns-in-Plain _ c = rw c.in-Plain.is refl

pub returns-in-Begin : goal.returns-in-Begin
returns-in-Begin _ c = prepared_as c.args.work.now _ c.prepared_for.result c.in-Begin.is
    (given_over c.plan.result.now _ _ c.as_slice.result.now _ _ c.prepared_for.result c.plan.ensures
    c.as_slice.ensures c.prepared_for.ensures)
