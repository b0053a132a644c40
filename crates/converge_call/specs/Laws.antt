-- What holds of a call over a keeper that keeps nothing.
use Rattle.std.specs.Prelude.{[], ℕ, ◌≡◌}
use Rattle.core_state.specs.State.{StateData}
use Rattle.provider.specs.Cloud.{Cloud}
use Rattle.step_relation.specs.Laws.{SoundAt}
use Rattle.record_keeper.specs.Nothing.{nothing_kept, opens_empty}
use Rattle.converge_call.specs.Ends.{OpensWith}

-- a book that is opened over nothing is over an empty cloud, and its opening is sound
abbrev pub NothingKeptOpensSound : Type 0
NothingKeptOpensSound = (workers : ℕ) (old new : Cloud) (opening : StateData)
    → OpensWith opens_empty workers nothing_kept nothing_kept 0 0 old new opening
    → (old.alive ≡ []) × SoundAt opening new
