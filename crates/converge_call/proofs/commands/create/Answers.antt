-- A command with the plan of the body, or a note why it has none.
use Rattle.std.proofs.Common.{subst}
use Rattle.std.specs.Prelude.{Bool}
use Rattle.driver.specs.declared.StackCommand.TheVariants as order
use Rattle.converge_call.specs.Commands.{OrderDoes, planned, unplanned}
use Rattle.converge_call.proofs.Noting.{keeps_as, noted_unkept}
use Rattle.converge_call.proofs.Ordering.{plan_fault_told}
use Rattle.converge_call.proofs.commands.create.Goals as goal

pub returns-in-Ok-clause-done : goal.returns-in-Ok-clause-done
returns-in-Ok-clause-done g c =
    keeps_as _ _ _ _ _ (λ es it. planned c.in-Ok.plan c.in-Ok.ensures.ok
    (subst (λ (b : Bool). OrderDoes c.args.number
    (order.Create c.args.name c.in-Ok.plan b) c.args.book.now.state c.order.new.book.state es) c.rollback.ensures it))
    c.order.ensures.done

pub returns-in-Err-clause-done : goal.returns-in-Err-clause-done
returns-in-Err-clause-done g c =
    noted_unkept _ _ _ _ _ (λ es it. unplanned c.in-Err.fault
    (c.in-Err.ensures.fault (plan_fault_told c.in-Err.fault it.code it.its_code)) it) c.refuse_plan.ensures.done
