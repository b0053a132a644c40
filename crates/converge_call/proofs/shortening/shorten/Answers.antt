-- A keeper that isn't long, one that was compacted, and one that wasn't.
use Rattle.std.proofs.Common.{Err, refl, subst}
use Rattle.book.specs.Compactions.{Compacts}
use Rattle.book.specs.declared.compacting.Uncompacted.{Uncompacted}
use Rattle.converge_call.specs.Shortening.{done}
use Rattle.converge_call.proofs.Carrying.{carries_none}
use Rattle.converge_call.proofs.Compacting.{compacted_carries, compacted_done, compacted_failed, compacted_lacks}
use Rattle.converge_call.proofs.shortening.shorten.Goals as goal

pub returns-then-not-is_long-clause-shortens : goal.returns-then-not-is_long-clause-shortens
returns-then-not-is_long-clause-shortens g c = done refl (let is = c.is_long.ensures in let no_ = c.if-not-is_long.true in cc) refl

pub returns-then-not-is_long-clause-carries : goal.returns-then-not-is_long-clause-carries
returns-then-not-is_long-clause-carries g c = carries_none g.K.Keeper.shown g.P.Provider.cloud c.args.book.now

pub returns-in-Ok-clause-shortens : goal.returns-in-Ok-clause-shortens
returns-in-Ok-clause-shortens g c = compacted_done g.K.Keeper.shown g.K.Keeper.faults c.args.book.now c.compact.new.self
    (c.in-Ok.ensures.compacted c.requires)

pub returns-in-Ok-clause-carries : goal.returns-in-Ok-clause-carries
returns-in-Ok-clause-carries g c = compacted_carries g.K.Keeper.shown g.K.Keeper.faults g.P.Provider.cloud
    c.args.book.now c.compact.new.self _ _ _ c.promises.ensures.run c.promises.ensures.held.goes_on
    (c.compact.ensures.compacted c.requires) c.compact.ensures.leaves

pub returns-in-Err-DiskFault-clause-shortens : goal.returns-in-Err-DiskFault-clause-shortens
returns-in-Err-DiskFault-clause-shortens g c = compacted_failed g.K.Keeper.shown g.K.Keeper.faults c.args.book.now
    c.compact.new.self (subst
    (λ (w : Uncompacted). Compacts g.K.Keeper.shown g.K.Keeper.faults c.args.book.now c.compact.new.self (Err w))
    c.in-Err-DiskFault.field-0-is (c.in-Err-DiskFault.ensures.compacted c.requires))

pub returns-in-Err-DiskFault-clause-carries : goal.returns-in-Err-DiskFault-clause-carries
returns-in-Err-DiskFault-clause-carries g c = compacted_carries g.K.Keeper.shown g.K.Keeper.faults g.P.Provider.cloud
    c.args.book.now c.compact.new.self _ _ _ c.promises.ensures.run c.promises.ensures.held.goes_on
    (c.compact.ensures.compacted c.requires) c.compact.ensures.leaves

pub returns-in-Err-Memory-clause-shortens : goal.returns-in-Err-Memory-clause-shortens
returns-in-Err-Memory-clause-shortens g c = compacted_lacks g.K.Keeper.shown g.K.Keeper.faults c.args.book.now
    c.compact.new.self (subst
    (λ (w : Uncompacted). Compacts g.K.Keeper.shown g.K.Keeper.faults c.args.book.now c.compact.new.self (Err w))
    c.in-Err-Memory.field-0-is (c.in-Err-Memory.ensures.compacted c.requires))

pub returns-in-Err-Memory-clause-carries : goal.returns-in-Err-Memory-clause-carries
returns-in-Err-Memory-clause-carries g c = compacted_carries g.K.Keeper.shown g.K.Keeper.faults g.P.Provider.cloud
    c.args.book.now c.compact.new.self _ _ _ c.promises.ensures.run c.promises.ensures.held.goes_on
    (c.compact.ensures.compacted c.requires) c.compact.ensures.leaves
