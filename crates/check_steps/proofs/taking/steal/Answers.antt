use Rattle.std.proofs.Common.{refl}
use Rattle.std.proofs.lemmas.Bool.{iff_false}
use Rattle.check_steps.specs.Makes.{worn}
use Rattle.check_steps.proofs.Worn.{lock_worn}
use Rattle.check_steps.proofs.taking.steal.Goals as goal

pub returns-then-not-may_all_rise-clause-cause : goal.returns-then-not-may_all_rise-clause-cause
returns-then-not-may_all_rise-clause-cause c =
    worn refl (lock_worn c.args.meant.now.row c.args.e _ (iff_false c.may_all_rise.ensures c.if-not-may_all_rise.true))
