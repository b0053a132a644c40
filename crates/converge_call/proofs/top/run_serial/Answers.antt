-- Over an image of the keeper's and what the cloud's list said, a book was opened or none was.
use Rattle.std.proofs.Common.{refl}
use Rattle.book.specs.declared.restarting.Unrestarted.TheVariants as why
use Rattle.converge_call.proofs.Handing.{from_before, opened_with, unopened_by}
use Rattle.converge_call.proofs.top.run_serial.Goals as goal

pub driven-requires : goal.driven-requires
driven-requires g c =
    let has = c.in-Book.ensures.book c.in-Book.book refl in
    record { state = has.state; entries = has.entries; keeper = has.keeper_is; unhalted = has.unhalted }

pub returns-in-Book-clause-opened : goal.returns-in-Book-clause-opened
returns-in-Book-clause-opened g c b is = opened_with _ g.K.Keeper.shown g.K.Keeper.faults g.P.Provider.cloud _
    c.args.keeper c.args.cloud c.in-Book.book b
    (c.driven.ensures.same b is) (c.in-Book.ensures.book c.in-Book.book refl)

pub returns-in-Book-clause-driven : goal.returns-in-Book-clause-driven
returns-in-Book-clause-driven g c b is = from_before _ _ _ _ _ _ _ _ _ _ _ _ _ _
    (g.K.Keeper.faults c.args.keeper) (g.K.Keeper.faults b.origin.keeper) (g.K.Keeper.faults b.keeper) _
    (opened_with _ g.K.Keeper.shown g.K.Keeper.faults g.P.Provider.cloud _ c.args.keeper c.args.cloud c.in-Book.book b
    (c.driven.ensures.same b is) (c.in-Book.ensures.book c.in-Book.book refl)).went.goes_on.later
    (c.driven.ensures.driven b is)

-- for each refusal of the opening
pub returns-in-Foreign-clause-unopened : goal.returns-in-Foreign-clause-unopened
returns-in-Foreign-clause-unopened g c k p is = unopened_by g.K.Keeper.may_open g.K.Keeper.shown g.K.Keeper.faults
    g.P.Provider.cloud c.args.workers c.args.keeper c.in-Foreign.keeper k c.args.cloud c.in-Foreign.cloud p
    why.Foreign _ (let both = c.unopened.ensures.end in cc) (let both = c.unopened.ensures.end in cc)
    (c.in-Foreign.ensures.foreign c.in-Foreign.keeper c.in-Foreign.cloud refl) c.unopened.ensures.status

pub returns-in-Disagree-clause-unopened : goal.returns-in-Disagree-clause-unopened
returns-in-Disagree-clause-unopened g c k p is = unopened_by g.K.Keeper.may_open g.K.Keeper.shown g.K.Keeper.faults
    g.P.Provider.cloud c.args.workers c.args.keeper c.in-Disagree.keeper k c.args.cloud c.in-Disagree.cloud p
    (why.Disagree c.in-Disagree.token c.in-Disagree.finding) _ (let both = c.unopened-in-Disagree.ensures.end in cc)
    (let both = c.unopened-in-Disagree.ensures.end in cc)
    (c.in-Disagree.ensures.disagree c.in-Disagree.keeper c.in-Disagree.cloud c.in-Disagree.token
    c.in-Disagree.finding refl) c.unopened-in-Disagree.ensures.status

pub returns-in-DiskFault-clause-unopened : goal.returns-in-DiskFault-clause-unopened
returns-in-DiskFault-clause-unopened g c k p is = unopened_by g.K.Keeper.may_open g.K.Keeper.shown g.K.Keeper.faults
    g.P.Provider.cloud c.args.workers c.args.keeper c.in-DiskFault.keeper k c.args.cloud c.in-DiskFault.cloud p
    why.DiskFault _ (let both = c.unopened-in-DiskFault.ensures.end in cc) (let both = c.unopened-in-DiskFault.ensures.end in cc)
    (c.in-DiskFault.ensures.disk_fault c.in-DiskFault.keeper c.in-DiskFault.cloud refl) c.unopened-in-DiskFault.ensures.status

pub returns-in-CloudFault-clause-unopened : goal.returns-in-CloudFault-clause-unopened
returns-in-CloudFault-clause-unopened g c k p is = unopened_by g.K.Keeper.may_open g.K.Keeper.shown
    g.K.Keeper.faults g.P.Provider.cloud c.args.workers c.args.keeper c.in-CloudFault.keeper k c.args.cloud
    c.in-CloudFault.cloud p
    why.CloudFault _ (let both = c.unopened-in-CloudFault.ensures.end in cc) (let both = c.unopened-in-CloudFault.ensures.end in cc)
    (c.in-CloudFault.ensures.cloud_fault c.in-CloudFault.keeper c.in-CloudFault.cloud refl)
    c.unopened-in-CloudFault.ensures.status

pub returns-in-Worn-clause-unopened : goal.returns-in-Worn-clause-unopened
returns-in-Worn-clause-unopened g c k p is = unopened_by g.K.Keeper.may_open g.K.Keeper.shown g.K.Keeper.faults
    g.P.Provider.cloud c.args.workers c.args.keeper c.in-Worn.keeper k c.args.cloud c.in-Worn.cloud p
    why.Worn _ (let both = c.unopened-in-Worn.ensures.end in cc) (let both = c.unopened-in-Worn.ensures.end in cc)
    (c.in-Worn.ensures.worn c.in-Worn.keeper c.in-Worn.cloud refl) c.unopened-in-Worn.ensures.status

pub returns-in-Memory-clause-unopened : goal.returns-in-Memory-clause-unopened
returns-in-Memory-clause-unopened g c k p is = unopened_by g.K.Keeper.may_open g.K.Keeper.shown g.K.Keeper.faults
    g.P.Provider.cloud c.args.workers c.args.keeper c.in-Memory.keeper k c.args.cloud c.in-Memory.cloud p
    why.Memory _ (let both = c.unopened-in-Memory.ensures.end in cc) (let both = c.unopened-in-Memory.ensures.end in cc)
    (c.in-Memory.ensures.memory c.in-Memory.keeper c.in-Memory.cloud refl) c.unopened-in-Memory.ensures.status
