use Rattle.std.proofs.Common.{refl}
use Rattle.std.proofs.lemmas.Bool.{iff_false}
use Rattle.step_relation.specs.Turns.{key}
use Rattle.check_steps.specs.Makes.{worn}
use Rattle.check_steps.proofs.Worn.{cannot_rise, worn_first}
use Rattle.check_steps.proofs.leaving.leave.Goals as goal

pub returns-then-not-may_rise-clause-cause : goal.returns-then-not-may_rise-clause-cause
returns-then-not-may_rise-clause-cause c =
    worn refl (worn_first _ _ (key _ (cannot_rise c.args.row.now
    (iff_false c.may_rise.ensures c.if-not-may_rise.true))))
