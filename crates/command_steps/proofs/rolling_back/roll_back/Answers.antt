-- The stack as the mark left it.
use Rattle.std.proofs.Common.{◌≡◌, ◌∙◌, Some, sym, ap}
use Rattle.std.specs.Prelude.{option_map}
use Rattle.std.proofs.lemmas.Result.{IfErr-weaker, IfOk-weaker}
use Rattle.core_state.specs.State.{stack_at}
use Rattle.command_steps.proofs.Steps.{follows, worn_behind}
use Rattle.command_steps.proofs.rolling_back.roll_back.Goals as goal

pub returns-clause-made : goal.returns-clause-made
returns-clause-made c =
    let found : stack_at c.args.s.now.state.stacks c.args.stack.now.name ≡ Some c.in-Some.failed.now =
    sym c.stack.ensures ∙ ap (option_map (λ s. s.now)) c.in-Some.is in
    IfOk-weaker c.roll_back_failed.result _ _
    (λ m laying. follows c.args.s.now.state m.changes m.entries c.args.e c.args.stack.now c.in-Some.failed.now found
    laying) c.roll_back_failed.ensures.made

pub returns-clause-cause : goal.returns-clause-cause
returns-clause-cause c =
    let found : stack_at c.args.s.now.state.stacks c.args.stack.now.name ≡ Some c.in-Some.failed.now =
    sym c.stack.ensures ∙ ap (option_map (λ s. s.now)) c.in-Some.is in
    IfErr-weaker c.roll_back_failed.result _ _
    (λ r cause. worn_behind c.args.s.now.state c.args.e c.args.stack.now c.in-Some.failed.now found r cause)
    c.roll_back_failed.ensures.cause
