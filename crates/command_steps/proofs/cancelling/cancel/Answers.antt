-- Whether a stack of the name is there.
use Rattle.std.proofs.Common.{◌∙◌, sym, ap, inr}
use Rattle.std.specs.Prelude.{option_map}
use Rattle.std.proofs.lemmas.Result.{IfOk-weaker}
use Rattle.command_steps.proofs.Steps.{cancelled}
use Rattle.command_steps.proofs.cancelling.cancel.Goals as goal
use Rattle.step_relation.specs.Refusals as refusals

pub returns-in-None-clause-cause : goal.returns-in-None-clause-cause
returns-in-None-clause-cause c = inr (refusals.absent (sym c.stack.ensures ∙ ap (option_map (λ s. s.now)) c.in-None.is))

pub returns-in-Some-clause-step : goal.returns-in-Some-clause-step
returns-in-Some-clause-step c =
    IfOk-weaker c.cancel_stack.result _ _ (λ m k. cancelled c.args.s.now.state m.changes m.entries c.args.name.now k)
    c.cancel_stack.ensures.made
