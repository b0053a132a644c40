-- What holds of states that changes made of nothing.
use Rattle.std.specs.Prelude.{List, ◌↔◌}
use Rattle.core_state.specs.Applies.{AllApply}
use Rattle.core_state.specs.Changes.{applied}
use Rattle.core_state.specs.State.{StateData}
use Rattle.core_state.specs.declared.change.Change.{Change}
use Rattle.step_relation.specs.Images.{AreKeepable, AreWhole, HasKeepableRows, IsMade, IsRead}
use Rattle.state_images.specs.Formed.{IsFormed}
use Rattle.state_images.specs.Snapshots.{IsSnapshot, snapshot}

-- these are the states with each key once, each stack of a graph and past there, and points by nodes
abbrev pub MadeIsFormed : Type 0
MadeIsFormed = (s : StateData) → IsMade s ↔ IsFormed s

-- each has its snapshot
abbrev pub MadeHasSnapshot : Type 0
MadeHasSnapshot = (s : StateData) → IsMade s → IsSnapshot s (snapshot s)

-- changes that all apply leave such a state
abbrev pub ChangesKeepMade : Type 0
ChangesKeepMade = (s : StateData) (cs : List Change) → IsMade s → AllApply cs s → IsMade (applied cs s)

-- and keepable changes, of rows that a record may hold, leave such rows
abbrev pub ChangesKeepKeepable : Type 0
ChangesKeepKeepable = (s : StateData) (cs : List Change) → HasKeepableRows s → AreKeepable cs
    → HasKeepableRows (applied cs s)

-- whole graphs come of being made: with rows that a record may hold the state reads as an image
abbrev pub MadeIsRead : Type 0
MadeIsRead = (s : StateData) → IsMade s → AreWhole s × (HasKeepableRows s → IsRead s)
