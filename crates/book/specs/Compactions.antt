-- What a compaction of the keeper's records makes of a book.
use Rattle.std.specs.Prelude.{Err, IsTrue, Ok, Result, Some, false, ℕ, ◌≡◌, ◌≢◌}
use Rattle.heat_value.specs.Counts.{Rose}
use Rattle.core_state.specs.State.{StateData}
use Rattle.record_keeper.specs.Calls.{GoesOn}
use Rattle.record_keeper.specs.Shown.{LeavesOnly, SameKeeper, ShownKeeper, StandsFor, at_rest}
use Rattle.book.specs.Kept.{Shown}
use Rattle.book.specs.Halts.{HasFaulted}
use Rattle.book.specs.declared.halting.Halt.TheVariants as halt
use Rattle.book.specs.declared.compacting.Uncompacted.TheVariants as why
use Rattle.book.specs.declared.compacting.Uncompacted.{Uncompacted}

-- it is done, and the keeper isn't long any more; it failed, and the book is halted; or there was no memory, and nothing
-- has changed that the keeper shows
pub data Compacts {K P : Type 0} (shown : K → ShownKeeper) (faults_of : K → ℕ) (old new : Shown K P)
    (result : Result (Unit {0}) Uncompacted) : Type 0 where
  done : result ≡ Ok tt → new ≡ record old { keeper = new.keeper } → (shown new.keeper).is_long ≡ false
      → Compacts shown faults_of old new result
  failed : result ≡ Err why.DiskFault → new ≡ record old { keeper = new.keeper; halt = Some halt.DiskFault }
      → HasFaulted faults_of old new → Compacts shown faults_of old new result
  lacking : result ≡ Err why.Memory → new ≡ record old { keeper = new.keeper }
      → SameKeeper (shown old.keeper) (shown new.keeper) → Compacts shown faults_of old new result

-- at each moment inside, a crash leaves the state
abbrev pub LeavesState : {K P : Type 0} → (K → ShownKeeper) → Shown K P → Shown K P → Type 0
LeavesState shown old new = IsTrue (shown old.keeper).tells
    → LeavesOnly (shown old.keeper) (shown new.keeper) (λ l. l ≡ Some (at_rest old.state))

-- a keeper's compaction to the state for which it stands
pub record Shortens (s : StateData) (old new : ShownKeeper) (before now : ℕ) (result : Result (Unit {0}) Uncompacted)
    : Type 0 where
  pub leaves : IsTrue old.tells → LeavesOnly old new (λ l. l ≡ Some (at_rest s))
  pub goes_on : GoesOn old new before now
  pub stands : result ≢ Err why.DiskFault → StandsFor new s
  pub young : result ≢ Err why.DiskFault → old.is_old ≡ false → new.is_old ≡ false
  pub short : result ≡ Ok tt → new.is_long ≡ false
  -- one that is still old can't be compacted any more
  pub stuck : result ≡ Ok tt → IsTrue new.is_old → new.can_compact ≡ false
  pub rose : result ≡ Err why.DiskFault → Rose before now
  pub same : result ≡ Err why.Memory → SameKeeper old new
