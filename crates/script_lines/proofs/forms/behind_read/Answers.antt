use Rattle.script_lines.proofs.forms.behind_read.Goals as goal

pub returns-in-WithBody-clause-fault : goal.returns-in-WithBody-clause-fault
returns-in-WithBody-clause-fault c = rw c.in-WithBody.is c.body_read.ensures.fault

pub returns-in-WithStack-clause-fault : goal.returns-in-WithStack-clause-fault
returns-in-WithStack-clause-fault c = rw c.in-WithStack.is c.stack_read.ensures.fault

pub returns-in-Types-clause-fault : goal.returns-in-Types-clause-fault
returns-in-Types-clause-fault c = rw c.in-Types.is c.types_read.ensures.fault
