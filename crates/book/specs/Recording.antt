-- What a call that makes one step leaves with the keeper, at each of its moments.
use Rattle.std.specs.Prelude.{Contains, IsTrue, List, Some, [], ◌++◌, ◌≡◌, ◌≢◌}
use Rattle.provider.specs.Cloud.{Cloud}
use Rattle.core_state.specs.Changes.{applied}
use Rattle.core_state.specs.State.{StateData}
use Rattle.core_state.specs.declared.change.Change.{Change}
use Rattle.core_state.specs.declared.entry.Entry.{Entry}
use Rattle.step_relation.specs.Runs.{ClosesOnce, IsTiedStep, Judges}
use Rattle.step_relation.specs.Steps.{Step}
use Rattle.step_relation.specs.Could.{Allows}
use Rattle.step_relation.specs.Opening.{first_of}
use Rattle.record_keeper.specs.Calls.{IsLeftOf}
use Rattle.record_keeper.specs.Shown.{LeavesOnly, ShownKeeper}
use Rattle.book.specs.Kept.{Shown, opening_of, registries}
use Rattle.book.specs.declared.halting.Halt.TheVariants as halt

-- one step behind a history, under one of the registries
pub record IsStepTo (h : List Entry) (s t : StateData) (es : List Entry) : Type 0 where
  pub changes : List Change
  pub step : Step s changes es
  pub judges : Judges
  pub among : Contains registries judges
  pub tied : IsTiedStep judges s changes es step
  pub once : ClosesOnce h s changes es step
  pub behind : t ≡ applied changes s

-- one step, or none
pub data StepsTo (h : List Entry) (s t : StateData) (es : List Entry) : Type 0 where
  none : t ≡ s → es ≡ [] → StepsTo h s t es
  one : IsStepTo h s t es → StepsTo h s t es

-- The step that a call of a book that wasn't halted made, or tried to have kept, and all that it tells. A crash inside
-- the call leaves the state before it or the one behind it; the cloud is in a state that the history with it allows;
-- and unless the keeper failed it was made.
pub record Records {K P : Type 0} (shown : K → ShownKeeper) (cloud_of : P → Cloud) (old new : Shown K P) : Type 0 where
  pub behind : StateData
  pub told : List Entry
  pub step : StepsTo old.entries old.state behind told
  pub agrees : Allows (first_of (opening_of cloud_of old)) (old.entries ++ told) (cloud_of new.cloud)
  pub leaves : IsTrue (shown old.keeper).tells
      → LeavesOnly (shown old.keeper) (shown new.keeper) (IsLeftOf old.state behind)
  pub state : new.halt ≢ Some halt.DiskFault → new.state ≡ behind
  pub entries : new.halt ≢ Some halt.DiskFault → new.entries ≡ old.entries ++ told
