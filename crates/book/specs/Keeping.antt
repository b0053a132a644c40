-- What a step needs of the keeper, and what it leaves with it.
use Rattle.std.specs.Prelude.{IsTrue, List, false, length, ℕ, ◌≡◌, ◌≤◌}
use Rattle.heat_value.specs.Counts.{Rose}
use Rattle.core_state.specs.Applies.{AllApply}
use Rattle.core_state.specs.Changes.{applied}
use Rattle.core_state.specs.State.{StateData}
use Rattle.core_state.specs.declared.change.Change.{Change}
use Rattle.core_state.specs.declared.made.Made.{Made}
use Rattle.step_relation.specs.Images.{AreKeepable}
use Rattle.record_keeper.specs.Calls.{GoesOn, IsLeftOf}
use Rattle.record_keeper.specs.Shown.{LeavesOnly, ShownKeeper, StandsFor}

-- it stands for the state, and may append
pub record IsReady (keeper : ShownKeeper) (s : StateData) : Type 0 where
  pub stands : StandsFor keeper s
  pub young : keeper.is_old ≡ false

-- the changes may be kept, and made
pub record IsStorable (s : StateData) (cs : List Change) : Type 0 where
  pub applies : AllApply cs s
  pub keepable : AreKeepable cs

-- there is room for a step: in the state, in the history, and with the keeper
pub record HasRoom (has_room : List Change → Type 0) (room pages : ℕ) (made : Made) : Type 0 where
  pub changes : length made.changes ≤ room
  pub entries : length made.entries ≤ pages
  pub record_ : has_room made.changes

-- between the two moments, with so many faults, a crash leaves the one state or the other
pub record Keeps (old new : ShownKeeper) (before now : ℕ) (s t : StateData) : Type 0 where
  pub leaves : IsTrue old.tells → LeavesOnly old new (IsLeftOf s t)
  pub goes_on : GoesOn old new before now

-- a call that had the keeper keep these changes, or tried to where it failed
pub record KeptBy (old new : ShownKeeper) (before now : ℕ) (s t : StateData) (cs : List Change) (failed : Type 0)
    : Type 0 where
  pub keeps : Keeps old new before now s (applied cs s)
  pub ready : ¬ failed → IsReady new t
  pub rose : failed → Rose before now
