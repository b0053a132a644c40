-- Whether a stack of the name is there.
use Rattle.std.proofs.Common.{◌≡◌, ◌∙◌, Some, sym, ap, inr}
use Rattle.std.specs.Prelude.{option_map}
use Rattle.std.proofs.lemmas.Result.{IfErr-weaker, IfOk-weaker}
use Rattle.core_state.specs.State.{stack_at}
use Rattle.command_steps.proofs.Steps.{deleted, deletes, worn_delete}
use Rattle.command_steps.proofs.deleting.delete.Goals as goal
use Rattle.step_relation.specs.Refusals as refusals

pub returns-in-None-clause-cause : goal.returns-in-None-clause-cause
returns-in-None-clause-cause c = inr (refusals.absent (sym c.stack.ensures ∙ ap (option_map (λ s. s.now)) c.in-None.is))

pub returns-in-Some-clause-made : goal.returns-in-Some-clause-made
returns-in-Some-clause-made c =
    let found : stack_at c.args.s.now.state.stacks c.args.name.now ≡ Some c.in-Some.stack.now =
    sym c.stack.ensures ∙ ap (option_map (λ s. s.now)) c.in-Some.is in
    IfOk-weaker c.delete_stack.result _ _
    (λ m laying. deletes c.args.s.now.state m.changes m.entries c.args.name.now c.in-Some.stack.now found laying)
    c.delete_stack.ensures.made

pub returns-in-Some-clause-step : goal.returns-in-Some-clause-step
returns-in-Some-clause-step c =
    let found : stack_at c.args.s.now.state.stacks c.args.name.now ≡ Some c.in-Some.stack.now =
    sym c.stack.ensures ∙ ap (option_map (λ s. s.now)) c.in-Some.is in
    let s = c.args.s.now.state in
    IfOk-weaker c.delete_stack.result _ _
    (λ m laying. deleted s m.changes m.entries c.args.name.now
    (deletes s m.changes m.entries c.args.name.now c.in-Some.stack.now found laying))
    c.delete_stack.ensures.made

pub returns-in-Some-clause-cause : goal.returns-in-Some-clause-cause
returns-in-Some-clause-cause c =
    let found : stack_at c.args.s.now.state.stacks c.args.name.now ≡ Some c.in-Some.stack.now =
    sym c.stack.ensures ∙ ap (option_map (λ s. s.now)) c.in-Some.is in
    IfErr-weaker c.delete_stack.result _ _
    (λ r cause. worn_delete c.args.s.now.state c.args.name.now c.in-Some.stack.now found r cause)
    c.delete_stack.ensures.cause
