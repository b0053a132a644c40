-- A body's plan, or why it has none, for the stack's own number.
use Rattle.converge_call.proofs.commands.planned.Goals as goal

pub returns-clause-fault : goal.returns-clause-fault
returns-clause-fault g c = rw (c.in_ok-copy.ensures, c.stack_no.ensures) at c.plan_of.ensures.fault
