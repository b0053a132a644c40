-- What an opening gives, and what a crash inside it leaves.
use Rattle.std.specs.Prelude.{◌≡◌, ◌≤◌, List, ℕ}
use Rattle.heat_disk.specs.Calls.{ReadsAlike}
use Rattle.heat_disk.specs.Shown.{ShownDisk, LeavesOnly}
use Rattle.row_journal.specs.Images.{ImageData, IsImage}
use Rattle.row_journal.specs.declared.place.Place.{Place}
use Rattle.row_journal.specs.Ends.{IsTidy}
use Rattle.row_journal.specs.Mends.{HasMended, Recovering}
use Rattle.row_journal.specs.Places.{place_of}
use Rattle.row_journal.specs.Ready.{IsReady}
use Rattle.row_journal.specs.Unsynced.{IsLastUnsynced, OpeningLeaves}

-- The payloads are those of the image that the disk read as, the journal is ready to go on from there, and no byte has
-- changed but by the closed gate that was lacking.
pub record HasOpened (old new : ShownDisk) (place : Place) (payloads : List (List ℕ)) : Type 0 where
  pub image : ImageData
  pub is_image : IsImage old.seen image
  pub payloads_are : payloads ≡ image.payloads
  pub numbers : place ≡ place_of image
  pub ready : IsReady image new
  pub bytes : HasMended image old.seen new.seen

-- where the halves were tidy, a crash at any moment since leaves one of the images that a recovery may leave
abbrev pub Survives : ShownDisk → ShownDisk → Type 0
Survives old new = (image : ImageData) → IsImage old.seen image → IsTidy old.seen image
    → LeavesOnly old new (Recovering old image)

-- where besides at most the writes of the last append, snapshot or opening were unsynced, these are named
abbrev pub SurvivesNamed : ShownDisk → ShownDisk → Type 0
SurvivesNamed old new = (image : ImageData) → IsImage old.seen image → IsTidy old.seen image → IsLastUnsynced old
    → LeavesOnly old new (OpeningLeaves old image)

-- then at most the writes of the last append, snapshot or opening are unsynced again
abbrev pub StaysUnsynced : ShownDisk → ShownDisk → Type 0
StaysUnsynced old new = (image : ImageData) → IsImage old.seen image → IsTidy old.seen image → IsLastUnsynced old
    → IsLastUnsynced new

-- there is no image, and nothing was written
pub record IsForeign (old new : ShownDisk) : Type 0 where
  pub none : (image : ImageData) → ¬ IsImage old.seen image
  pub alike : ReadsAlike old new

-- it is a disk of the same kind, whose count of faults hasn't fallen
pub record GoesOn (old new : ShownDisk) (before now : ℕ) : Type 0 where
  pub tells : new.tells ≡ old.tells
  pub later : before ≤ now
