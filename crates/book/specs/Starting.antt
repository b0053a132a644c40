-- How a book begins with an image.
use Rattle.std.specs.Prelude.{IfErr, IfOk, IsTrue, None, Ok, Result, Some, [], ℕ, ◌+◌, ◌<◌, ◌^◌, ◌≡◌, ◌≢◌, ◌≤◌, ◌⊎◌}
use Rattle.heat_value.specs.Counts.{Rose}
use Rattle.provider.specs.Cloud.{Cloud}
use Rattle.core_state.specs.Changes.{applied}
use Rattle.core_state.specs.State.{StateData}
use Rattle.step_relation.specs.Steps.{restart_changes}
use Rattle.record_keeper.specs.Calls.{GoesOn}
use Rattle.record_keeper.specs.Shown.{LeavesOnly, ShownKeeper, at_rest}
use Rattle.book.specs.Keeping.{IsReady}
use Rattle.book.specs.Kept.{IsOpenedFrom, Shown}
use Rattle.book.specs.Openings.{HasImageListed, IsLeftOfStart, IsLeftUnbegun, IsStuck, OpensKeeper, WhyUnopened}
use Rattle.book.specs.declared.opening.Start.{Start}
use Rattle.book.specs.declared.restarting.Unrestarted.TheVariants as unrestarted
use Rattle.book.specs.declared.restarting.Unrestarted.{Unrestarted}

-- an image with so many engines in the place of its own
abbrev pub restarted_at : StateData → ℕ → StateData
restarted_at image count = applied (restart_changes image count) image

-- both states are those of an opening with so many engines over this image, and nothing was told
pub record IsStart (image : StateData) (count : ℕ) (start : Start) : Type 0 where
  pub opening : start.opening.state ≡ restarted_at image count
  pub state : start.state.state ≡ restarted_at image count
  pub silent : start.entries.items ≡ []

-- why nothing begins
pub data WhyUnstarted (image : StateData) (count : ℕ) (keeper : ShownKeeper) (before now : ℕ) (w : Unrestarted)
    : Type 0 where
  fault : Rose before now → w ≡ unrestarted.DiskFault → WhyUnstarted image count keeper before now w
  worn : (2 ^ 62 < image.next.engine + count) ⊎ IsStuck keeper → w ≡ unrestarted.Worn
      → WhyUnstarted image count keeper before now w
  memory : w ≡ unrestarted.Memory → WhyUnstarted image count keeper before now w

-- a keeper that isn't old any more
pub record Renews (image : StateData) (count : ℕ) (old new : ShownKeeper) (before now : ℕ)
    (result : Result (Unit {0}) Unrestarted) : Type 0 where
  pub leaves : IsTrue old.tells → LeavesOnly old new (λ l. l ≡ Some (at_rest image))
  pub goes_on : GoesOn old new before now
  pub ready : result ≡ Ok tt → IsReady new image
  pub why : IfErr result (WhyUnstarted image count new before now)

-- an image with so many engines, which the keeper keeps
pub record Starts (image : StateData) (count : ℕ) (old new : ShownKeeper) (before now : ℕ)
    (result : Result Start Unrestarted) : Type 0 where
  pub leaves : IsTrue old.tells → LeavesOnly old new (IsLeftOfStart image count)
  pub goes_on : GoesOn old new before now
  pub rests : IfErr result
      (λ w. w ≢ unrestarted.DiskFault → IsTrue old.tells → LeavesOnly old new (λ l. l ≡ Some (at_rest image)))
  pub start : IfOk result (IsStart image count)
  pub below : IfOk result (λ st. image.next.engine + count ≤ 2 ^ 62)
  pub ready : IfOk result (λ st. IsReady new (restarted_at image count))
  pub why : IfErr result (WhyUnstarted image count new before now)

-- an image was admitted, and is kept with so many engines
pub record HasStarted (may_open : StateData → Type 0) (count : ℕ) (new : ShownKeeper) (c d : Cloud) (start : Start)
    : Type 0 where
  pub found : HasImageListed may_open c d
  pub opened : IsOpenedFrom found.image start.opening.state d count
  pub copied : start.state.state ≡ start.opening.state
  pub silent : start.entries.items ≡ []
  pub ready : IsReady new start.state.state

-- an opening over keeper and cloud
pub record Opens (may_open : StateData → Type 0) (count : ℕ) (old new : ShownKeeper) (before now : ℕ) (c d : Cloud)
    (result : Result Start Unrestarted) : Type 0 where
  pub started : IfOk result (HasStarted may_open count new c d)
  pub went : OpensKeeper may_open count old new before now
  pub rests : IfErr result
      (λ w. w ≢ unrestarted.DiskFault → IsTrue old.tells → LeavesOnly old new (IsLeftUnbegun may_open old))
  pub why : IfErr result (WhyUnopened may_open old.recalls new count before now c d)

-- a book on which nothing has been done
abbrev pub first_book : {K P : Type 0} → Start → K → P → Shown K P
first_book start keeper cloud = record {
  opening = start.opening.state;
  state = start.state.state;
  entries = start.entries.items;
  keeper = keeper;
  cloud = cloud;
  origin = record { keeper = keeper; cloud = cloud };
  halt = None;
}

-- with this a book may begin
pub record Begins (keeper : ShownKeeper) (cloud : Cloud) (start : Start) : Type 0 where
  pub image : StateData
  pub count : ℕ
  pub opened : IsOpenedFrom image start.opening.state cloud count
  pub copied : start.state.state ≡ start.opening.state
  pub silent : start.entries.items ≡ []
  pub ready : IsReady keeper start.state.state
