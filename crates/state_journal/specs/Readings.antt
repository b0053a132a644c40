-- What two halves of bytes stand for: the state that is read, and the one that may yet be read in its place.
use Rattle.std.specs.Prelude.{List, None, Option, Some, [], ℕ, ◌++◌, ◌∷◌, ◌⊎◌}
use Rattle.core_state.specs.State.{StateData}
use Rattle.heat_disk.specs.Halves.{Pair}
use Rattle.record_keeper.specs.Shown.{Left, at_rest}
use Rattle.row_journal.specs.Ends.{LeavesSealed}
use Rattle.row_journal.specs.Images.{ImageData, IsImage}
use Rattle.row_journal.specs.Pending.{IsPending}
use Rattle.state_journal.specs.Payloads.{Give}

-- an image, whose payloads give this state
pub record Holds (s : StateData) (halves : Pair) : Type 0 where
  pub image : ImageData
  pub is_image : IsImage halves image
  pub give : Give image.payloads s

-- Nothing behind the image could come to count; or one record could, and gives a state too.
pub data Reads (halves : Pair) : Left → Type 0 where
  sealed : (image : ImageData) (s : StateData) → LeavesSealed image halves → Give image.payloads s
      → Reads halves (at_rest s)
  torn : (image : ImageData) (payload : List ℕ) (s t : StateData) → IsImage halves image
      → IsPending halves image (Some payload) → Give image.payloads s → Give (image.payloads ++ payload ∷ []) t
      → Reads halves (record { reads = s; next = Some t })

-- what they stand for; none where no state is told: no image, payloads that give none, an untidy end, or a record
-- behind it that gives none
abbrev pub StandFor : Pair → Option Left → Type 0
StandFor halves None = (l : Left) → ¬ Reads halves l
StandFor halves (Some l) = Reads halves l

-- the state that they hold, and that it is known what they stand for
pub record ReadAs (halves : Pair) (s : StateData) : Type 0 where
  pub holds : Holds s halves
  pub left : Option Left
  pub stand : StandFor halves left

-- Of these payloads, and of what stands behind their records, it is known whether they give a state.
abbrev pub Told : {A : Type 0} → (A → Type 0) → Type 0
Told {A} P = ((x : A) × P x) ⊎ ((x : A) → ¬ P x)

abbrev pub IsKnownBehind : List (List ℕ) → Option (List ℕ) → Type 0
IsKnownBehind payloads None = Unit {0}
IsKnownBehind payloads (Some payload) = Told (Give (payloads ++ payload ∷ []))
