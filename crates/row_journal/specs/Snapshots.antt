-- A snapshot: the image that it gives, and how the half that isn't live comes to hold it.
use Rattle.std.specs.Prelude.{◌≡◌, ◌≢◌, ◌⊎◌, ◌+◌, ◌<◌, ◌≤◌, ◌^◌, ℕ, List, [], ◌∷◌, ◌++◌, length, get_or, Option, None}
use Rattle.heat_disk.specs.declared.half.Half.{Half}
use Rattle.heat_disk.specs.Halves.{Pair, part, beside}
use Rattle.heat_disk.specs.Shown.{ShownDisk, IsAtLeast, IsDurable}
use Rattle.row_journal.specs.declared.headers.Header.{Header}
use Rattle.row_journal.specs.declared.version.Version.TheVariants.{Two}
use Rattle.row_journal.specs.Forms.{word, snapshot_mark}
use Rattle.row_journal.specs.Images.{ImageData, HasHeader}
use Rattle.row_journal.specs.declared.place.Place.{Place}
use Rattle.row_journal.specs.Ends.{LeavesSealed}
use Rattle.row_journal.specs.Mends.{other}

-- The other half is live, in version 2 and the next epoch, and this is its one record.
abbrev pub fresh_snapshot : ImageData → List ℕ → ImageData
fresh_snapshot image payload = record {
  half = other image.half;
  version = Two;
  epoch = image.epoch + 1;
  start = 16;
  payloads = payload ∷ [];
}

-- these halves have the image from before the snapshot or the snapshot's, with nothing behind it that could come to count
pub data LeavesSnapshot (image : ImageData) (payload : List ℕ) (halves : Pair) : Type 0 where
  before : LeavesSealed image halves → LeavesSnapshot image payload halves
  turned : LeavesSealed (fresh_snapshot image payload) halves → LeavesSnapshot image payload halves

-- this half isn't born, or has the header that it had; the other half is as before
pub record IsUnopened (half : Half) (before halves : Pair) : Type 0 where
  pub same : beside half halves ≡ beside half before
  pub header : HasHeader (part half halves) None
      ⊎ ((h : Option Header) → HasHeader (part half before) h → HasHeader (part half halves) h)

-- 17 bytes or more, and no open gate at place 16
pub record IsShut (bytes : List ℕ) : Type 0 where
  pub long : 17 ≤ length bytes
  pub gate : get_or bytes 16 0 ≢ 1

-- in front of a snapshot's gate
abbrev pub header_of : ℕ → List ℕ
header_of epoch = snapshot_mark Two ++ word epoch

-- this half has a snapshot's header, this gate, and these bytes behind it; the other half is as before
pub record IsStaged (half : Half) (epoch gate : ℕ) (bytes : List ℕ) (before halves : Pair) : Type 0 where
  pub same : beside half halves ≡ beside half before
  pub rest : List ℕ
  pub parts : part half halves ≡ header_of epoch ++ gate ∷ (bytes ++ rest)

-- so behind some gate
pub record IsStagedSomehow (half : Half) (epoch : ℕ) (bytes : List ℕ) (before halves : Pair) : Type 0 where
  pub gate : ℕ
  pub staged : IsStaged half epoch gate bytes before halves

-- closing is done
pub record HasShut (half : Half) (disk : ShownDisk) : Type 0 where
  pub durable : IsDurable disk
  pub shut : IsShut (part half disk.seen)

-- filling is done, or opening
pub record HasStaged (half : Half) (epoch gate : ℕ) (bytes : List ℕ) (before : Pair) (disk : ShownDisk) : Type 0 where
  pub durable : IsDurable disk
  pub staged : IsStaged half epoch gate bytes before disk.seen

-- filling is done behind some gate
pub record HasFilled (half : Half) (epoch : ℕ) (bytes : List ℕ) (before : Pair) (disk : ShownDisk) : Type 0 where
  pub gate : ℕ
  pub filled : HasStaged half epoch gate bytes before disk

-- the buffer and the disk have room for a snapshot of n bytes
pub record HasSnapshotRoom (n : ℕ) (place : Place) (room : ℕ) (disk : ShownDisk) : Type 0 where
  pub small : n + 51 < 2 ^ 64
  pub buffer : n + 17 ≤ room
  pub room_of_disk : IsAtLeast (n + 34) (n + 51) 7 (part (other place.half) disk.room)
