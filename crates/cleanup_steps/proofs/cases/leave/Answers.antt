use Rattle.std.proofs.Common.{refl}
use Rattle.std.proofs.lemmas.Bool.{both_ways}
use Rattle.cleanup_steps.specs.Makes.{worn}
use Rattle.cleanup_steps.proofs.CaseLemmas.{left_wears}
use Rattle.cleanup_steps.proofs.cases.leave.Goals as goal

pub returns-then-not-may_rise-clause-cause : goal.returns-then-not-may_rise-clause-cause
returns-then-not-may_rise-clause-cause c = worn refl
    (left_wears c.args.e c.args.row.now
    (λ may. both_ways c.may_rise.result c.if-not-may_rise.true (c.may_rise.ensures.1 may)))
