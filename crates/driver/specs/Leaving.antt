-- What a crash may leave at each moment of a call that makes many steps.
use Rattle.std.specs.Prelude.{IfSome, IsTrue, List, None, Option, Some, [], ◌++◌, ◌≡◌, ◌⊎◌}
use Rattle.provider.specs.Cloud.{Cloud}
use Rattle.core_state.specs.State.{StateData}
use Rattle.core_state.specs.declared.entry.Entry.{Entry}
use Rattle.step_relation.specs.Could.{Allows}
use Rattle.step_relation.specs.Laws.{SoundAt}
use Rattle.step_relation.specs.Opening.{Opening, first_of}
use Rattle.step_relation.specs.Runs.{Run}
use Rattle.step_relation.specs.Sound.{Sound}
use Rattle.record_keeper.specs.Calls.{IsLeftOf}
use Rattle.record_keeper.specs.Shown.{Left, LeavesOnly, ShownKeeper}
use Rattle.book.specs.Kept.{Shown, opening_of, registries}
use Rattle.book.specs.Recording.{StepsTo}

-- what is left is sound with this cloud: the state that is read, and the one that may come in its place
abbrev pub FitsCloud : Cloud → Option Left → Type 0
FitsCloud c None = ⊥
FitsCloud c (Some l) = SoundAt l.reads c × IfSome l.next (λ s. SoundAt s c)

-- with each cloud that a history allows
abbrev pub FitsEach : Opening → List Entry → Option Left → Type 0
FitsEach o h l = (c : Cloud) → Allows (first_of o) h c → FitsCloud c l

-- A run reaches a state behind a first part of the history, with the entries from before the call at least; what is left
-- is of that state, or of the one behind the step that was made there, or tried. From a sound opening it fits each cloud
-- that this part allows, or each that it allows with that step's entries, the lost ones too.
pub record IsLeftAlong (o : Opening) (before all : List Entry) (l : Option Left) : Type 0 where
  pub so_far : List Entry
  pub since : List Entry
  pub begins : so_far ≡ before ++ since
  pub later : List Entry
  pub parts : all ≡ so_far ++ later
  pub state : StateData
  pub run : Run registries o.state state so_far
  pub behind : StateData
  pub told : List Entry
  pub step : StepsTo so_far state behind told
  pub left : IsLeftOf state behind l
  pub fits : Sound o [] o.state → FitsEach o so_far l ⊎ FitsEach o (so_far ++ told) l

-- at each moment of a call on a book a crash leaves nothing else, where the keeper tells
abbrev pub LeavesAlong : {K P : Type 0} → (K → ShownKeeper) → (P → Cloud) → Shown K P → Shown K P → Type 0
LeavesAlong shown cloud_of old new = IsTrue (shown old.origin.keeper).tells
    → LeavesOnly (shown old.keeper) (shown new.keeper) (IsLeftAlong (opening_of cloud_of old) old.entries new.entries)
