-- A layout's refusal is the order's.
use Rattle.std.proofs.Common.{◌≡◌, rules}
use Rattle.std.proofs.lemmas.Result.{IfErr-weaker}
use Rattle.command_steps.specs.Orders.{sets_of}
use Rattle.command_steps.proofs.Refused.{refused}
use Rattle.command_steps.proofs.laying.ordered_twice.Goals as goal

pub returns-in_err-layout-clause-cause : goal.returns-in_err-layout-clause-cause
returns-in_err-layout-clause-cause c =
    IfErr-weaker c.from_residual.result (λ r. r ≡ c.in_err-layout.field-0.0) _
    (λ r is. rw is
    (refused c.args.s.now.state c.args.name.now (sets_of c.args.order) c.in_err-layout.field-0.0
    (rw c.items.ensures.value at c.in_err-layout.ensures.err)))
    (search rules)
