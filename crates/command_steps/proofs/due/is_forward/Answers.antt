use Rattle.std.proofs.Common.{refl}
use Rattle.step_relation.specs.Orders.{of_create, of_update}
use Rattle.command_steps.proofs.due.is_forward.Goals as goal

pub returns-in-Create : goal.returns-in-Create
returns-in-Create c = rw c.in-Create.is (λ _. of_create, λ _. refl)

pub returns-in-Update : goal.returns-in-Update
returns-in-Update c = rw c.in-Update.is (λ _. of_update, λ _. refl)
