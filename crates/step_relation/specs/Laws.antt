-- What each step keeps, and what every run has.
use Rattle.std.specs.Prelude.{Bool, List, [], ℕ, ◌++◌, ◌+◌, ◌^◌, ◌≡◌, ◌≤◌}
use Rattle.heat_plan.specs.declared.token.Token.{Token}
use Rattle.provider.specs.Cloud.{Cloud}
use Rattle.core_state.specs.Changes.{applied}
use Rattle.core_state.specs.State.{StateData}
use Rattle.core_state.specs.declared.change.Change.{Change}
use Rattle.core_state.specs.declared.entry.Entry.{Entry}
use Rattle.step_relation.specs.Runs.{IsTiedStep, Judges, Run}
use Rattle.step_relation.specs.Steps.{Step, engine_limit, restart_changes}
use Rattle.step_relation.specs.Could.{Allows, IsPossible}
use Rattle.step_relation.specs.Opening.{Opening, bare, empty_opening, first_of}
use Rattle.step_relation.specs.Compared.{FindsNothing}
use Rattle.step_relation.specs.Headline.{Headline}
use Rattle.step_relation.specs.Sound.{Sound}

-- from a sound state each step leaves a sound state, where the answers were ones that a provider gives
abbrev pub StepsKeepSound : Type 0
StepsKeepSound = (judges : Judges) (o : Opening) (h : List Entry) (s : StateData) (cs : List Change) (es : List Entry)
    → Sound o h s → (step : Step s cs es) → IsTiedStep judges s cs es step → IsPossible o (h ++ es)
    → Sound o (h ++ es) (applied cs s)

-- every run from a sound opening stays sound
abbrev pub SoundOpeningsStaySound : Type 0
SoundOpeningsStaySound = (registries : List Judges) (o : Opening) (s : StateData) (h : List Entry) → Sound o [] o.state
    → Run registries o.state s h → IsPossible o h → Sound o h s

-- and has the main theorem
abbrev pub SoundOpeningsHaveHeadline : Type 0
SoundOpeningsHaveHeadline = (registries : List Judges) (o : Opening) (s : StateData) (h : List Entry)
    → Sound o [] o.state
    → Run registries o.state s h → IsPossible o h → Headline registries o h s

-- an empty history over nothing is sound
abbrev pub EmptyIsSound : Type 0
EmptyIsSound = (engines : ℕ) (leaving : Token → Bool)
    → Sound (empty_opening engines leaving) [] (empty_opening engines leaving).state

-- what an opening at this moment would begin with
abbrev pub opening_at : StateData → Cloud → Opening
opening_at s cloud = record { state = s; alive = cloud.alive; leaving = cloud.leaving }

-- a sound state with a cloud in a state that the history allows is a sound opening
abbrev pub StatesAreOpenings : Type 0
StatesAreOpenings = (o : Opening) (h : List Entry) (s : StateData) (cloud : Cloud) → Sound o h s
    → Allows (first_of o) h cloud → Sound (opening_at s cloud) [] s

-- the state is sound as an opening with this cloud
abbrev pub SoundAt : StateData → Cloud → Type 0
SoundAt s cloud = Sound (opening_at s cloud) [] s

-- as it is once all its engines are stopped and so many others are enlisted
abbrev pub RestartsKeepSound : Type 0
RestartsKeepSound = (image : StateData) (cloud : Cloud) (count : ℕ) → 1 ≤ count → count ≤ engine_limit
    → image.next.engine + count ≤ 2 ^ 62 → SoundAt image cloud
    → SoundAt (applied (restart_changes image count) image) cloud

-- an opening over nothing, whose comparison finds nothing, is over an empty cloud and sound
abbrev pub NothingKeptIsSound : Type 0
NothingKeptIsSound = (cloud : Cloud) (count : ℕ) → 1 ≤ count → count ≤ engine_limit
    → FindsNothing (opening_at bare cloud)
    → (cloud.alive ≡ []) × SoundAt (applied (restart_changes bare count) bare) cloud
