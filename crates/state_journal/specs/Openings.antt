-- A journal at a moment, and what an opening of it makes of it.
use Rattle.std.specs.Prelude.{Bool, Err, IfOk, IsTrue, OnErr, Result, true, ℕ, ◌≡◌, ◌≢◌}
use Rattle.core_state.specs.State.{Held}
use Rattle.heat_disk.specs.Shown.{ShownDisk}
use Rattle.heat_value.specs.Counts.{Rose}
use Rattle.record_keeper.specs.Calls.{ComesOf, GoesOn, HasOpened, IsForeign}
use Rattle.record_keeper.specs.Shown.{LeavesOnly, SameOpenings, ShownKeeper}
use Rattle.record_keeper.specs.declared.open_fault.OpenFault.{OpenFault}
use Rattle.record_keeper.specs.declared.open_fault.OpenFault.TheVariants.{DiskFault, Foreign}
use Rattle.row_journal.specs.declared.place.Place.{Place}
use Rattle.state_journal.specs.Shown.{opens_by, shown_by}

-- what its disk shows and how often it has failed, where the journal stands, and whether it isn't open
pub record Standing : Type 1 where
  pub disk : ShownDisk
  pub faults : ℕ
  pub place : Place
  pub failed : Bool

abbrev pub shown_of : Standing → ShownKeeper
shown_of j = shown_by j.disk j.place j.failed

-- an opening, as its keeper's users ask for it
pub record OpensAs (old new : Standing) (result : Result Held OpenFault) : Type 0 where
  pub opened : IfOk result (λ s. HasOpened (opens_by old.disk) (shown_of new) s.state)
  pub closed : OnErr result (new.failed ≡ true)
  pub foreign : result ≡ Err Foreign → IsTrue old.disk.tells → IsForeign (opens_by old.disk)
  pub opens : result ≢ Err DiskFault → SameOpenings (opens_by old.disk) (opens_by new.disk)
  pub crash : IsTrue old.disk.tells → LeavesOnly (shown_of old) (shown_of new) (ComesOf (shown_of old))
  pub goes_on : GoesOn (shown_of old) (shown_of new) old.faults new.faults
  pub cause : result ≡ Err DiskFault → Rose old.faults new.faults
