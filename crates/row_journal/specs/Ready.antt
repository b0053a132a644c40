-- When a journal can go on, and when a record has its room.
use Rattle.std.specs.Prelude.{◌≡◌, ◌<◌, ◌≤◌, ◌+◌, ◌^◌, ℕ, List, take}
use Rattle.heat_disk.specs.declared.half.Half.{Half}
use Rattle.heat_disk.specs.Halves.{part, beside}
use Rattle.heat_disk.specs.Shown.{ShownDisk, IsLeft, IsAtLeast, IsDurable}
use Rattle.row_journal.specs.Forms.{journal_mark}
use Rattle.row_journal.specs.Images.{ImageData, IsImage}
use Rattle.row_journal.specs.declared.place.Place.{Place}
use Rattle.row_journal.specs.Ends.{behind, IsClosed, HasNext}
use Rattle.row_journal.specs.Places.{place_of}

-- The disk reads as this image, which ends at a closed gate, and all of it is on the disk.
pub record IsReady (image : ImageData) (disk : ShownDisk) : Type 0 where
  pub is_image : IsImage disk.seen image
  pub marked : image.start ≡ 8 → take 8 (part image.half disk.seen) ≡ journal_mark image.version
  pub closed : IsClosed (behind disk.seen image)
  pub durable : IsDurable disk

-- The disk reads as this image, whose next record stands whole behind its closed gate, and all of it is on the disk.
pub record HasRecord (image : ImageData) (payload : List ℕ) (disk : ShownDisk) : Type 0 where
  pub is_image : IsImage disk.seen image
  pub marked : image.start ≡ 8 → take 8 (part image.half disk.seen) ≡ journal_mark image.version
  pub next : HasNext image 0 payload (behind disk.seen image)
  pub durable : IsDurable disk

-- the journal's numbers are those of an image that is ready
pub record StandsAt (place : Place) (disk : ShownDisk) : Type 0 where
  pub image : ImageData
  pub numbers : place ≡ place_of image
  pub ready : IsReady image disk

-- the numbers are in range, and the buffer and the disk have room, for a record of n bytes
pub record HasReserved (n : ℕ) (place : Place) (room : ℕ) (disk : ShownDisk) : Type 0 where
  pub end : place.end + n + 18 < 2 ^ 64
  pub number : place.count + 1 < 2 ^ 64
  pub buffer : n + 17 ≤ room
  pub room_of_disk : IsAtLeast (place.end + n + 18) (n + 18) 4 (part place.half disk.room)

-- the room of this half is no less, and that of the other is as it was
pub record KeepsRoom (half : Half) (old new : ShownDisk) : Type 0 where
  pub here : IsLeft 0 0 (part half old.room) (part half new.room)
  pub other : beside half new.room ≡ beside half old.room
