-- The state, the history and the cloud at one moment, and what a call makes of them.
use Rattle.std.specs.Prelude.{List, [], suc, ◌++◌, ◌∷◌, ◌≡◌, ◌≢◌, ◌≤◌}
use Rattle.heat_value.specs.Counts.{Rose}
use Rattle.heat_plan.specs.declared.calls.Answered.{Answered}
use Rattle.heat_plan.specs.declared.calls.Request.{Request}
use Rattle.heat_plan.specs.declared.token.Token.{Token}
use Rattle.provider.specs.Changes.{IsAsBefore}
use Rattle.provider.specs.Cloud.{Cloud}
use Rattle.provider.specs.Moves.{Answers}
use Rattle.provider.specs.declared.traced.Traced.TheVariants.{Called}
use Rattle.core_state.specs.Changes.{applied}
use Rattle.core_state.specs.State.{StateData}
use Rattle.core_state.specs.declared.change.Change.{Change}
use Rattle.core_state.specs.declared.entry.Entry.{Entry}
use Rattle.book.specs.Kept.{Shown}
use Rattle.heat_plan.specs.declared.calls.Answered.TheVariants as answer

pub record Scene : Type 0 where
  pub state : StateData
  pub entries : List Entry
  pub cloud : Cloud

abbrev pub scene : StateData → List Entry → Cloud → Scene
scene state entries cloud = record { state = state; entries = entries; cloud = cloud }

-- what a book shows of its state, its history and its cloud
abbrev pub scene_of : {K P : Type 0} → (P → Cloud) → Shown K P → Scene
scene_of cloud_of b = scene b.state b.entries (cloud_of b.cloud)

-- NotYet comes only where polls are left for the token, and takes one; other tokens keep theirs
pub record Polls (token : Token) (given : Answered) (old new : Cloud) : Type 0 where
  pub waits : given ≡ answer.NotYet → suc (new.left token) ≡ old.left token
  pub others : (t : Token) → t ≢ token → new.left t ≡ old.left t

-- a call with its answer: what it made of the cloud
pub record Told (token : Token) (asked : Request) (given : Answered) (old new : Cloud) : Type 0 where
  pub answers : Answers token asked given old new
  pub trace : new.trace ≡ old.trace ++ Called token asked given ∷ []
  pub faults : old.faults ≤ new.faults
  pub cause : given ≡ answer.Failed → Rose old.faults new.faults
  pub polls : Polls token given old new

-- the changes are made, and the entries told
pub record Makes (cs : List Change) (es : List Entry) (old new : Scene) : Type 0 where
  pub state : new.state ≡ applied cs old.state
  pub entries : new.entries ≡ old.entries ++ es

-- nothing has changed
pub record IsUnmade (old new : Scene) : Type 0 where
  pub state : new.state ≡ old.state
  pub entries : new.entries ≡ old.entries
  pub cloud : IsAsBefore old.cloud new.cloud
