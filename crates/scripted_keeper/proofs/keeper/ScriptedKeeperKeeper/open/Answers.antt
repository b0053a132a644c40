-- The empty state is what it is opened with, and it goes on from it.
use Rattle.std.proofs.Common.{refl, true}
use Rattle.record_keeper.proofs.Bare.{bare_opened}
use Rattle.scripted_keeper.proofs.Standing.{stands_for}
use Rattle.scripted_keeper.proofs.keeper.ScriptedKeeperKeeper.open.Goals as goal

pub returns-in-Works-clause-opened : goal.returns-in-Works-clause-opened
returns-in-Works-clause-opened c = bare_opened _ _ _ c.new.ensures tt
    (stands_for (record c.take.new.self { going = true }) _ refl)
