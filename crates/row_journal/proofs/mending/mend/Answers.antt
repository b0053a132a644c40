use Rattle.std.proofs.Common.{refl, subst}
use Rattle.row_journal.specs.declared.looking.Ending.{Ending}
use Rattle.row_journal.specs.Mends.{IsSettled, HasMended}
use Rattle.row_journal.specs.Unsynced.{all_synced}
use Rattle.row_journal.proofs.mending.mend.Goals as goal

pub returns-in-Open-clause-any_moment : goal.returns-in-Open-clause-any_moment
returns-in-Open-clause-any_moment g c tells image is settled tidy =
    c.close.ensures.any_moment tells image is (subst (λ (e : Ending). IsSettled image e (g.D.Disk.shown c.args.disk.now)) c.in-Open.is settled) tidy

pub returns-in-Open-clause-bytes : goal.returns-in-Open-clause-bytes
returns-in-Open-clause-bytes g c tells image is settled =
    c.close.ensures.bytes tells image is (subst (λ (e : Ending). IsSettled image e (g.D.Disk.shown c.args.disk.now)) c.in-Open.is settled)

pub returns-in-Short-clause-bytes : goal.returns-in-Short-clause-bytes
returns-in-Short-clause-bytes g c tells image is settled =
    c.restart.ensures.bytes tells image is (subst (λ (e : Ending). IsSettled image e (g.D.Disk.shown c.args.disk.now)) c.in-Short.is settled)

pub returns-in-Closed-clause-bytes : goal.returns-in-Closed-clause-bytes
returns-in-Closed-clause-bytes g c tells image is settled =
    let now = subst (λ (e : Ending). IsSettled image e (g.D.Disk.shown c.args.disk.now)) c.in-Closed.is settled in
    HasMended.as_it_was now.ends.0 now.ends.1 refl

pub returns-in-Open-clause-unsynced : goal.returns-in-Open-clause-unsynced
returns-in-Open-clause-unsynced g c tells image is settled tidy =
    c.close.ensures.unsynced tells image is (subst (λ (e : Ending). IsSettled image e (g.D.Disk.shown c.args.disk.now)) c.in-Open.is settled) tidy

pub returns-in-Short-clause-unsynced : goal.returns-in-Short-clause-unsynced
returns-in-Short-clause-unsynced g c tells image is settled tidy =
    c.restart.ensures.unsynced tells image is (subst (λ (e : Ending). IsSettled image e (g.D.Disk.shown c.args.disk.now)) c.in-Short.is settled)

pub returns-in-Closed-clause-unsynced : goal.returns-in-Closed-clause-unsynced
returns-in-Closed-clause-unsynced g c tells image is settled tidy = all_synced settled.durable
