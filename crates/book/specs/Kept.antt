-- What a book shows, and what it keeps of it.
use Rattle.std.specs.Prelude.{List, None, Option, Some, [], false, ℕ, ◌++◌, ◌+◌, ◌^◌, ◌∷◌, ◌≡◌, ◌≢◌, ◌≤◌, ◌⊎◌}
use Rattle.provider.specs.Cloud.{Cloud, state_of}
use Rattle.provider.specs.declared.traced.Listing.TheVariants as listing
use Rattle.provider.specs.declared.traced.Listing.{Listing}
use Rattle.provider.specs.declared.traced.Traced.{Traced}
use Rattle.provider.specs.declared.traced.Traced.TheVariants.{Called, Listed}
use Rattle.core_state.specs.Changes.{applied}
use Rattle.core_state.specs.State.{StateData}
use Rattle.core_state.specs.declared.entry.EngineChange.{EngineChange}
use Rattle.core_state.specs.declared.entry.EngineChange.TheVariants as engine
use Rattle.core_state.specs.declared.entry.Entry.{Entry}
use Rattle.core_state.specs.declared.entry.What.{What}
use Rattle.core_state.specs.declared.entry.What.TheVariants as what
use Rattle.step_relation.specs.Runs.{Judges, Run}
use Rattle.step_relation.specs.Steps.{engine_limit, restart_changes}
use Rattle.step_relation.specs.Could.{Allows}
use Rattle.step_relation.specs.Opening.{Opening, first_of}
use Rattle.step_relation.specs.Headline.{Headline}
use Rattle.step_relation.specs.Images.{IsInRange, IsMade}
use Rattle.step_relation.specs.Laws.{opening_at}
use Rattle.step_relation.specs.Sound.{Sound}
use Rattle.workable_laws.specs.Admitted.{IsAdmitted}
use Rattle.record_keeper.specs.Calls.{GoesOn}
use Rattle.record_keeper.specs.Shown.{ShownKeeper, StandsFor}
use Rattle.book.specs.declared.halting.Halt.{Halt}
use Rattle.book.specs.declared.halting.Halt.TheVariants as halt

-- keeper and cloud, as they stood behind the opening
pub record Origin (K P : Type 0) : Type 0 where
  pub keeper : K
  pub cloud : P

-- the state at the opening; the state and the history since; keeper and cloud, now and behind the opening; why it is
-- halted, if it is
pub record Shown (K P : Type 0) : Type 0 where
  pub opening : StateData
  pub state : StateData
  pub entries : List Entry
  pub keeper : K
  pub cloud : P
  pub origin : Origin K P
  pub halt : Option Halt

-- a registry that judges no kind
abbrev pub unjudged : Judges
unjudged kind = None

-- the registries under which every book runs: the one that judges nothing
abbrev pub registries : List Judges
registries = unjudged ∷ []

-- what a change of engines asks of the cloud: a restart its list
abbrev pub list_of : EngineChange → List Traced
list_of (engine.Start e) = []
list_of (engine.Stop e) = []
list_of (engine.Restart e count) = Listed listing.Got ∷ []

-- the call that an entry tells of
abbrev pub call_of : What → List Traced
call_of (what.Call token asked given) = Called token asked given ∷ []
call_of (what.Command stack trav act plan rollback) = []
call_of (what.Release token) = []
call_of (what.Mark stack trav act cause) = []
call_of (what.Rows writes) = []
call_of (what.Mail writes) = []
call_of (what.Engine change) = list_of change
call_of (what.Show it stack) = []
call_of (what.Note line code path) = []
call_of (what.Ran idle turns) = []
call_of (what.Turned engine lost) = []
call_of (what.Preview stack forecast) = []
call_of what.Closed = []

-- the calls of a history, in order
abbrev pub calls_of : List Entry → List Traced
calls_of [] = []
calls_of (e ∷ es) = call_of e.what ++ calls_of es

-- what halts a book where a restart was refused
abbrev pub IsByRestart : Option Halt → Type 0
IsByRestart h = (h ≡ Some halt.DiskFault) ⊎ (h ≡ Some halt.Refused)

-- The cloud's trace is the opening's and then the history's calls, and behind them at most the list of a restart that
-- was refused.
pub data IsTraced (origin : Cloud) (entries : List Entry) (cloud : Cloud) (h : Option Halt) : Type 0 where
  whole : cloud.trace ≡ origin.trace ++ calls_of entries → IsTraced origin entries cloud h
  listed : (given : Listing) → IsByRestart h → cloud.trace ≡ (origin.trace ++ calls_of entries) ++ Listed given ∷ []
      → IsTraced origin entries cloud h

-- The first state is an image with so many engines enlisted in place of its own; the image was admitted over the cloud
-- as its list was then.
pub record IsOpenedFrom (image first : StateData) (origin : Cloud) (count : ℕ) : Type 0 where
  pub made : IsMade image
  pub range : IsInRange image
  pub admitted : IsAdmitted (opening_at image origin)
  pub some : 1 ≤ count
  pub few : count ≤ engine_limit
  pub below : image.next.engine + count ≤ 2 ^ 62
  pub opens : first ≡ applied (restart_changes image count) image

-- The history is that of a run from an opening that was admitted; the cloud is in a state that the history allows, and
-- its trace is the history's.
pub record IsKept (first : StateData) (origin : Cloud) (state : StateData) (entries : List Entry) (cloud : Cloud)
    (h : Option Halt) : Type 0 where
  pub image : StateData
  pub count : ℕ
  pub opened : IsOpenedFrom image first origin count
  pub run : Run registries first state entries
  pub agrees : Allows (state_of origin) entries cloud
  pub trace : IsTraced origin entries cloud h

-- the keeper has gone on from the opening; unless its fault halted the book it stands for the state, and isn't old
pub record IsHeld (origin keeper : ShownKeeper) (before now : ℕ) (state : StateData) (h : Option Halt) : Type 0 where
  pub goes_on : GoesOn origin keeper before now
  pub stands : h ≢ Some halt.DiskFault → StandsFor keeper state
  pub young : h ≢ Some halt.DiskFault → keeper.is_old ≡ false

-- the opening and the origin stay
pub record IsSameBook {K P : Type 0} (old new : Shown K P) : Type 0 where
  pub opening : new.opening ≡ old.opening
  pub origin : new.origin ≡ old.origin

-- the history is that of a run, and the cloud has followed it
pub record HasRun {K P : Type 0} (cloud_of : P → Cloud) (b : Shown K P) : Type 0 where
  pub run : Run registries b.opening b.state b.entries
  pub agrees : Allows (state_of (cloud_of b.origin.cloud)) b.entries (cloud_of b.cloud)
  pub trace : IsTraced (cloud_of b.origin.cloud) b.entries (cloud_of b.cloud) b.halt

-- what the book's run began with
abbrev pub opening_of : {K P : Type 0} → (P → Cloud) → Shown K P → Opening
opening_of cloud_of b = opening_at b.opening (cloud_of b.origin.cloud)

-- it was opened with an admitted image, with so many engines
pub record HasImage {K P : Type 0} (cloud_of : P → Cloud) (b : Shown K P) : Type 0 where
  pub image : StateData
  pub count : ℕ
  pub opened : IsOpenedFrom image b.opening (cloud_of b.origin.cloud) count

-- its opening is sound
abbrev pub IsSoundOpening : {K P : Type 0} → (P → Cloud) → Shown K P → Type 0
IsSoundOpening cloud_of b = Sound (opening_of cloud_of b) [] b.opening

-- its state is, with its history
abbrev pub IsSoundBook : {K P : Type 0} → (P → Cloud) → Shown K P → Type 0
IsSoundBook cloud_of b = Sound (opening_of cloud_of b) b.entries b.state

-- the main theorem holds of the history, and the cloud is in a state that the history allows
pub record HasHeadline {K P : Type 0} (cloud_of : P → Cloud) (b : Shown K P) : Type 0 where
  pub headline : Headline registries (opening_of cloud_of b) b.entries b.state
  pub agrees : Allows (first_of (opening_of cloud_of b)) b.entries (cloud_of b.cloud)
