-- A layout's refusal is the command's.
use Rattle.std.proofs.Common.{◌≡◌, rules}
use Rattle.std.proofs.lemmas.Result.{IfErr-weaker}
use Rattle.step_relation.specs.Orders.{create_sets}
use Rattle.command_steps.proofs.Refused.{refused}
use Rattle.command_steps.proofs.creating.create_within.Goals as goal

pub returns-in_err-layout-clause-cause : goal.returns-in_err-layout-clause-cause
returns-in_err-layout-clause-cause c =
    let it = create_sets c.args.s.now.state c.args.name.now c.args.plan c.args.rollback in
    IfErr-weaker c.from_residual.result (λ r. r ≡ c.in_err-layout.field-0.0) _
    (λ r is. rw is
    (refused c.args.s.now.state c.args.name.now it c.in_err-layout.field-0.0
    (rw c.items.ensures.value at c.in_err-layout.ensures.err)))
    (search rules)
