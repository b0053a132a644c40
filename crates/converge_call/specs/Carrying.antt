-- What is done with a book for a line, or a part of one, keeps of it, and leaves with its keeper.
use Rattle.std.specs.Prelude.{IsTrue, List, None, ◌++◌, ◌≡◌}
use Rattle.provider.specs.Cloud.{Cloud}
use Rattle.core_state.specs.declared.entry.Entry.{Entry}
use Rattle.record_keeper.specs.Shown.{LeavesOnly, ShownKeeper}
use Rattle.driver.specs.Kept.{IsSameBook, Shown, opening_of}
use Rattle.driver.specs.Leaving.{IsLeftAlong}

-- the keeper wasn't called; or at each moment a crash leaves the state that a run reaches with a first part of the
-- history, or the one behind one step more
pub data LeavesOrNot {K P : Type 0} (shown : K → ShownKeeper) (cloud_of : P → Cloud) (old new : Shown K P) : Type 0 where
  uncalled : new.keeper ≡ old.keeper → LeavesOrNot shown cloud_of old new
  called : LeavesOnly (shown old.keeper) (shown new.keeper) (IsLeftAlong (opening_of cloud_of old) old.entries new.entries)
      → LeavesOrNot shown cloud_of old new

-- opening and origin stay, and the history goes on
pub record Carries {K P : Type 0} (shown : K → ShownKeeper) (cloud_of : P → Cloud) (old new : Shown K P) : Type 0 where
  pub same : IsSameBook old new
  pub added : List Entry
  pub entries : new.entries ≡ old.entries ++ added
  pub leaves : old.halt ≡ None → IsTrue (shown old.origin.keeper).tells → LeavesOrNot shown cloud_of old new
