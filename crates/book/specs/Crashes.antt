-- What a crash leaves of a book, now, and at each moment since its opening.
use Rattle.std.specs.Prelude.{IsTrue, List, Option, Some, take, ◌++◌, ◌≡◌, ◌≤◌, ◌⊎◌}
use Rattle.provider.specs.Cloud.{Cloud, state_of}
use Rattle.core_state.specs.State.{StateData}
use Rattle.core_state.specs.declared.entry.Entry.{Entry}
use Rattle.step_relation.specs.Could.{Allows}
use Rattle.step_relation.specs.Runs.{Run}
use Rattle.record_keeper.specs.Calls.{IsLeftOf}
use Rattle.record_keeper.specs.Shown.{Left, ShownKeeper}
use Rattle.book.specs.Kept.{Shown, registries}
use Rattle.book.specs.Recording.{StepsTo}
use Rattle.book.specs.declared.halting.Halt.TheVariants as halt
use Rattle.book.specs.declared.halting.Halt.{Halt}

-- behind a first part of the history: the state there, or the one behind the one step that was made there, or tried
pub record IsLeftBehind (first : StateData) (h : List Entry) (l : Option Left) : Type 0 where
  pub part : List Entry
  pub rest : List Entry
  pub parts : h ≡ part ++ rest
  pub before : StateData
  pub run : Run registries first before part
  pub behind : StateData
  pub told : List Entry
  pub step : StepsTo part before behind told
  pub left : IsLeftOf before behind l

-- The step in doubt, which the keeper failed to keep: its call at most is told. A crash leaves the state before it, or
-- the one behind it; the cloud is in a state that the history with it allows.
pub record IsInDoubt (first : StateData) (origin : Cloud) (s : StateData) (h : List Entry) (c : Cloud)
    (keeper : ShownKeeper) : Type 0 where
  pub part : List Entry
  pub run : Run registries first s part
  pub behind : StateData
  pub told : List Entry
  pub step : StepsTo part s behind told
  pub history : (h ≡ part) ⊎ (h ≡ part ++ take 1 told)
  pub agrees : Allows (state_of origin) (part ++ told) c
  pub leaves : IsTrue keeper.tells → (l : Option Left) → keeper.may_leave l → IsLeftOf s behind l

-- since the opening a crash left nothing else; and where the keeper's fault halted the book one step is in doubt
pub record IsLeft (first : StateData) (origin : Cloud) (opened keeper : ShownKeeper) (s : StateData) (h : List Entry)
    (c : Cloud) (why : Option Halt) : Type 0 where
  pub later : IsTrue keeper.tells → opened.moment ≤ keeper.moment
  pub since : IsTrue keeper.tells → (l : Option Left) → keeper.left_since opened.moment l → IsLeftBehind first h l
  pub doubt : why ≡ Some halt.DiskFault → IsInDoubt first origin s h c keeper

-- so it is of a book
abbrev pub LeavesBehind : {K P : Type 0} → (K → ShownKeeper) → (P → Cloud) → Shown K P → Type 0
LeavesBehind shown cloud_of b = IsLeft b.opening (cloud_of b.origin.cloud) (shown b.origin.keeper) (shown b.keeper)
    b.state b.entries (cloud_of b.cloud) b.halt
