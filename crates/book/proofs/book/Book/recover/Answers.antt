-- What the opening came to, with keeper and cloud as they are handed on.
use Rattle.book.proofs.HandedBack.{begins_with, opened_book, unopened_as}
use Rattle.book.specs.declared.restarting.Unrestarted.TheVariants as why
use Rattle.book.proofs.book.Book.recover.Goals as goal

pub begun-requires : goal.begun-requires
begun-requires g c = begins_with _ _ _ _ _ c.in-Ok.start c.in-Ok.ensures.started

pub returns-in-Ok-clause-book : goal.returns-in-Ok-clause-book
returns-in-Ok-clause-book g c b is = opened_book _ _ _ _ c.args.workers _ _ _ _ c.in-Ok.start c.begun.result b
    c.begun.ensures (cc) c.in-Ok.ensures.started c.in-Ok.ensures.went

pub returns-in-Err-Foreign-clause-foreign : goal.returns-in-Err-Foreign-clause-foreign
returns-in-Err-Foreign-clause-foreign g c k p is = unopened_as g.K.Keeper.shown g.K.Keeper.faults
    g.P.Provider.cloud _ c.args.workers _ c.open_with.new.keeper _ c.open_with.new.cloud k p _ why.Foreign
    c.in-Err-Foreign.field-0-is (cc) (cc) c.in-Err-Foreign.ensures

pub returns-in-Err-Disagree-clause-disagree : goal.returns-in-Err-Disagree-clause-disagree
returns-in-Err-Disagree-clause-disagree g c k p token finding is = unopened_as g.K.Keeper.shown g.K.Keeper.faults
    g.P.Provider.cloud _ c.args.workers _ c.open_with.new.keeper _ c.open_with.new.cloud k p _ (why.Disagree token finding)
    (cc) (cc) (cc) c.in-Err-Disagree.ensures

pub returns-in-Err-DiskFault-clause-disk_fault : goal.returns-in-Err-DiskFault-clause-disk_fault
returns-in-Err-DiskFault-clause-disk_fault g c k p is = unopened_as g.K.Keeper.shown g.K.Keeper.faults
    g.P.Provider.cloud _ c.args.workers _ c.open_with.new.keeper _ c.open_with.new.cloud k p _ why.DiskFault
    c.in-Err-DiskFault.field-0-is (cc) (cc) c.in-Err-DiskFault.ensures

pub returns-in-Err-CloudFault-clause-cloud_fault : goal.returns-in-Err-CloudFault-clause-cloud_fault
returns-in-Err-CloudFault-clause-cloud_fault g c k p is = unopened_as g.K.Keeper.shown g.K.Keeper.faults
    g.P.Provider.cloud _ c.args.workers _ c.open_with.new.keeper _ c.open_with.new.cloud k p _ why.CloudFault
    c.in-Err-CloudFault.field-0-is (cc) (cc) c.in-Err-CloudFault.ensures

pub returns-in-Err-Worn-clause-worn : goal.returns-in-Err-Worn-clause-worn
returns-in-Err-Worn-clause-worn g c k p is = unopened_as g.K.Keeper.shown g.K.Keeper.faults
    g.P.Provider.cloud _ c.args.workers _ c.open_with.new.keeper _ c.open_with.new.cloud k p _ why.Worn
    c.in-Err-Worn.field-0-is (cc) (cc) c.in-Err-Worn.ensures

pub returns-in-Err-Memory-clause-memory : goal.returns-in-Err-Memory-clause-memory
returns-in-Err-Memory-clause-memory g c k p is = unopened_as g.K.Keeper.shown g.K.Keeper.faults
    g.P.Provider.cloud _ c.args.workers _ c.open_with.new.keeper _ c.open_with.new.cloud k p _ why.Memory
    c.in-Err-Memory.field-0-is (cc) (cc) c.in-Err-Memory.ensures
