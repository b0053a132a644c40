-- Whether a stack of the name is there.
use Rattle.std.proofs.Common.{◌∙◌, sym, ap, inr}
use Rattle.std.specs.Prelude.{option_map}
use Rattle.std.proofs.lemmas.Result.{IfOk-weaker}
use Rattle.command_steps.proofs.Steps.{created}
use Rattle.command_steps.proofs.creating.create.Goals as goal
use Rattle.step_relation.specs.Refusals as refusals

pub returns-in-Some-clause-cause : goal.returns-in-Some-clause-cause
returns-in-Some-clause-cause c =
    inr (refusals.exists c.in-Some.field-0.now (sym c.stack.ensures ∙ ap (option_map (λ s. s.now)) c.in-Some.is))

pub returns-in-None-clause-step : goal.returns-in-None-clause-step
returns-in-None-clause-step c =
    IfOk-weaker c.create_absent.result _ _
    (λ m k. created c.args.s.now.state m.changes m.entries c.args.name.now c.args.plan c.args.rollback k)
    c.create_absent.ensures.made
