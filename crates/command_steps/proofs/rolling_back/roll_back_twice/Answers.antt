-- The stack as the mark left it.
use Rattle.std.proofs.Common.{◌≡◌, ◌∙◌, Some, sym, ap}
use Rattle.std.specs.Prelude.{option_map}
use Rattle.std.proofs.lemmas.Result.{IfErr-weaker, IfOk-weaker}
use Rattle.core_state.specs.State.{stack_at}
use Rattle.command_steps.proofs.Steps.{follows, worn_behind}
use Rattle.command_steps.proofs.rolling_back.roll_back_twice.Goals as goal

found : (c : goal.After-roll_back_failed_twice) → stack_at c.args.s.now.state.stacks c.args.stack.now.name ≡ Some c.in-Some.failed.now
found c = sym c.stack.ensures ∙ ap (option_map (λ s. s.now)) c.in-Some.is

pub returns-clause-first : goal.returns-clause-first
returns-clause-first c = IfOk-weaker c.roll_back_failed_twice.result _ _
    (λ both laying. follows c.args.s.now.state both.0.changes both.0.entries c.args.e c.args.stack.now c.in-Some.failed.now (found c)
    laying) c.roll_back_failed_twice.ensures.first

pub returns-clause-second : goal.returns-clause-second
returns-clause-second c = IfOk-weaker c.roll_back_failed_twice.result _ _
    (λ both laying. follows c.args.s.now.state both.1.changes both.1.entries c.args.e c.args.stack.now c.in-Some.failed.now (found c)
    laying) c.roll_back_failed_twice.ensures.second

pub returns-clause-cause : goal.returns-clause-cause
returns-clause-cause c = IfErr-weaker c.roll_back_failed_twice.result _ _
    (λ r cause. worn_behind c.args.s.now.state c.args.e c.args.stack.now c.in-Some.failed.now (found c) r cause)
    c.roll_back_failed_twice.ensures.cause
