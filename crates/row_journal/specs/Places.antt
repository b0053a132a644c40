-- Where the next record goes, as the image says it.
use Rattle.std.specs.Prelude.{◌≡◌, ◌<◌, ◌≤◌, ◌+◌, ◌*◌, ◌-◌, ◌^◌, ℕ, length, take}
use Rattle.row_journal.specs.declared.version.Version.{Version}
use Rattle.row_journal.specs.declared.version.Version.TheVariants.{One, Two}
use Rattle.row_journal.specs.Forms.{spelled}
use Rattle.row_journal.specs.Images.{ImageData}
use Rattle.row_journal.specs.declared.place.Place.{Place}
use Rattle.row_journal.specs.Ends.{end_of}

-- the place behind its first record
abbrev pub first_end_of : ImageData → ℕ
first_end_of image = image.start + length (spelled image.version 1 (take 1 image.payloads))

-- what a journal keeps of the image
abbrev pub place_of : ImageData → Place
place_of image = record {
  half = image.half;
  version = image.version;
  epoch = image.epoch;
  start = image.start;
  count = length image.payloads;
  first_end = first_end_of image;
  end = end_of image;
}

-- a version by its number
abbrev pub digit : Version → ℕ
digit One = 1
digit Two = 2

-- The records end past 1,048,576 and, in a half that is born, at twice the end of the first or more; and the epoch
-- can still rise.
pub record IsLong (place : Place) : Type 0 where
  pub past : 2 ^ 20 < place.end
  pub doubled : place.start ≡ 16 → 2 * place.first_end ≤ place.end
  pub young : place.epoch < 2 ^ 62 - 1
