-- The case of each command.
use Rattle.book.proofs.Doing.{ordered, refuses}
use Rattle.book.proofs.commanding.order_of.Goals as goal

pub returns-in-Create-clause-made : goal.returns-in-Create-clause-made
returns-in-Create-clause-made c = ordered _ _ _ c.create.result c.in-Create.is c.create.ensures.made
    c.create.ensures.step

pub returns-in-Create-clause-cause : goal.returns-in-Create-clause-cause
returns-in-Create-clause-cause c = refuses _ _ _ c.create.result c.in-Create.is c.create.ensures.cause

pub returns-in-Update-clause-made : goal.returns-in-Update-clause-made
returns-in-Update-clause-made c = ordered _ _ _ c.update.result c.in-Update.is c.update.ensures.made
    c.update.ensures.step

pub returns-in-Update-clause-cause : goal.returns-in-Update-clause-cause
returns-in-Update-clause-cause c = refuses _ _ _ c.update.result c.in-Update.is c.update.ensures.cause

pub returns-in-Delete-clause-made : goal.returns-in-Delete-clause-made
returns-in-Delete-clause-made c = ordered _ _ _ c.delete.result c.in-Delete.is c.delete.ensures.made
    c.delete.ensures.step

pub returns-in-Delete-clause-cause : goal.returns-in-Delete-clause-cause
returns-in-Delete-clause-cause c = refuses _ _ _ c.delete.result c.in-Delete.is c.delete.ensures.cause

pub returns-in-Cancel-clause-made : goal.returns-in-Cancel-clause-made
returns-in-Cancel-clause-made c = ordered _ _ _ c.cancel.result c.in-Cancel.is c.cancel.ensures.made
    c.cancel.ensures.step

pub returns-in-Cancel-clause-cause : goal.returns-in-Cancel-clause-cause
returns-in-Cancel-clause-cause c = refuses _ _ _ c.cancel.result c.in-Cancel.is c.cancel.ensures.cause
