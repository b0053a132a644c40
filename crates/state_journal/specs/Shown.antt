-- What a journaled state shows: to its keeper's users, by what its disk shows and by where its journal stands.
use Rattle.std.specs.Prelude.{Bool, IsTrue, List, Option, false, nat_le, nat_lt, not, true, ℕ, ◌&&◌, ◌*◌, ◌-◌, ◌<◌, ◌==◌, ◌^◌, ◌||◌, ◌≡◌, ◌≤◌, length}
use Rattle.core_state.specs.State.{StateData}
use Rattle.core_state.specs.declared.change.Change.{Change}
use Rattle.heat_disk.specs.Halves.{Pair}
use Rattle.heat_disk.specs.Shown.{ShownDisk}
use Rattle.plan_codec.specs.Sheets.{SheetData}
use Rattle.record_keeper.specs.Shown.{Left, ShownKeeper}
use Rattle.row_codec.specs.Changes.{spelled}
use Rattle.row_journal.specs.Images.{ImageData}
use Rattle.row_journal.specs.Places.{place_of}
use Rattle.row_journal.specs.Ready.{HasReserved, IsReady}
use Rattle.row_journal.specs.Shown.{JournalData}
use Rattle.row_journal.specs.Snapshots.{HasSnapshotRoom}
use Rattle.row_journal.specs.declared.place.Place.{Place}
use Rattle.row_journal.specs.declared.version.Version.{Version}
use Rattle.row_journal.specs.declared.version.Version.TheVariants.{One, Two}
use Rattle.state_images.specs.Snapshots.{snapshot}
use Rattle.state_journal.specs.Payloads.{Give}
use Rattle.state_journal.specs.Readings.{ReadAs, StandFor}

-- the journal, and the sheet on which its next record is written
pub record JournaledData (D : Type 0) : Type 0 where
  pub journal : JournalData D
  pub sheet : SheetData

-- the records end past 1,048,576 and, in a half that is born, at twice the end of the first or more, and the epoch may rise
abbrev pub is_long_at : Place → Bool
is_long_at place = nat_lt (2 ^ 20) place.end && ((not (place.start == 16) || nat_le (2 * place.first_end) place.end)
    && nat_lt place.epoch (2 ^ 62 - 1))

abbrev pub is_one : Version → Bool
is_one One = true
is_one Two = false

-- the journal is open, and stands at an image whose payloads give this state
pub record StandsAs (disk : ShownDisk) (place : Place) (failed : Bool) (s : StateData) : Type 0 where
  pub tells : IsTrue disk.tells
  pub open_ : failed ≡ false
  pub image : ImageData
  pub numbers : place ≡ place_of image
  pub ready : IsReady image disk
  pub give : Give image.payloads s

-- where it tells, these halves are among some, and stand for it
pub record Leave (tells : Bool) (halves : Pair → Type 0) (l : Option Left) : Type 0 where
  pub told : IsTrue tells
  pub pair : Pair
  pub left : halves pair
  pub stand : StandFor pair l

-- the moment, where it tells
abbrev pub moment_of : Bool → ℕ → ℕ
moment_of true moment = moment
moment_of false moment = 0

abbrev pub shown_by : ShownDisk → Place → Bool → ShownKeeper
shown_by disk place failed = record {
  tells = disk.tells;
  recalls = disk.tells;
  going = not failed;
  is_long = is_long_at place;
  is_old = is_one place.version;
  can_compact = nat_lt place.epoch (2 ^ 62 - 1);
  stands = StandsAs disk place failed;
  may_leave = Leave disk.tells disk.may_leave;
  moment = moment_of disk.tells disk.moment;
  left_since = λ t. Leave disk.tells (disk.left_since t);
}

-- where the disk tells, it may be opened with the state that its halves are read as
abbrev pub opens_by : ShownDisk → StateData → Type 0
opens_by disk s = IsTrue disk.tells → ReadAs disk.seen s

-- the record of these changes has its room, on the sheet and in the journal
pub record HasRecordRoom (j : SheetData) (place : Place) (room : ℕ) (disk : ShownDisk) (cs : List Change) : Type 0 where
  pub sheet : length (spelled cs) ≤ j.room
  pub journal : HasReserved (length (spelled cs)) place room disk

-- so has the snapshot of this state
pub record HasCopyRoom (j : SheetData) (place : Place) (room : ℕ) (disk : ShownDisk) (s : StateData) : Type 0 where
  pub sheet : length (spelled (snapshot s)) ≤ j.room
  pub counted : length (spelled (snapshot s)) < 2 ^ 64 - 1
  pub journal : HasSnapshotRoom (length (spelled (snapshot s))) place room disk
