-- What two halves stand for: which one is live, and the payloads of its records.
use Rattle.std.specs.Prelude.{◌≡◌, ◌<◌, ◌≤◌, ℕ, List, [], length, take, drop, get_or}
use Rattle.std.specs.Prelude.{Option, Some, None, if◌then◌else◌, nat_lt}
use Rattle.heat_disk.specs.declared.half.Half.{Half}
use Rattle.heat_disk.specs.declared.half.Half.TheVariants.{First, Second}
use Rattle.heat_disk.specs.Halves.{Pair, part}
use Rattle.row_journal.specs.declared.version.Version.{Version}
use Rattle.row_journal.specs.declared.version.Version.TheVariants.{Two}
use Rattle.row_journal.specs.declared.headers.Header.{Header}
use Rattle.row_journal.specs.Forms.{number, journal_mark, snapshot_mark, AreRecords}

-- a half is born: it has more than 17 bytes, a snapshot's mark in front, and an open gate at place 16
pub record IsBorn (half : List ℕ) (header : Header) : Type 0 where
  pub long : 17 < length half
  pub mark : take 8 half ≡ snapshot_mark header.version
  pub epoch : number (take 8 (drop 8 half)) ≡ header.epoch
  pub gate : get_or half 16 0 ≡ 1

-- the header with which a half is born, or that it isn't
abbrev pub HasHeader : List ℕ → Option Header → Type 0
HasHeader half None = (header : Header) → ¬ IsBorn half header
HasHeader half (Some header) = IsBorn half header

-- the live half: the born one with the greater epoch, First where they are equal or none is born
abbrev pub live : Option Header → Option Header → Half
live None None = First
live (Some a) None = First
live None (Some b) = Second
live (Some a) (Some b) = if nat_lt a.epoch b.epoch then Second else First

-- what is read: the live half, its version and epoch, where its records begin, and their payloads
pub record ImageData : Type 0 where
  pub half : Half
  pub version : Version
  pub epoch : ℕ
  pub start : ℕ
  pub payloads : List (List ℕ)

-- a journal that isn't born: its records follow its mark, and at most 9 bytes are an empty one
pub data IsPlain (bytes : List ℕ) (version : Version) (payloads : List (List ℕ)) : Type 0 where
  fresh : length bytes ≤ 9 → version ≡ Two → payloads ≡ [] → IsPlain bytes version payloads
  marked : 9 < length bytes → take 8 bytes ≡ journal_mark version
      → AreRecords version 1 (drop 8 bytes) payloads → IsPlain bytes version payloads

-- the bytes of a live half that isn't born give this image
pub record GivesPlain (bytes : List ℕ) (image : ImageData) : Type 0 where
  pub start : image.start ≡ 8
  pub epoch : image.epoch ≡ 0
  pub plain : IsPlain bytes image.version image.payloads

-- those of a live half that is born with this header, whose records stand from place 16 on
pub record GivesBorn (bytes : List ℕ) (header : Header) (image : ImageData) : Type 0 where
  pub start : image.start ≡ 16
  pub epoch : image.epoch ≡ header.epoch
  pub version : image.version ≡ header.version
  pub born : AreRecords header.version 1 (drop 16 bytes) image.payloads

-- the live half's bytes give this image
abbrev pub Gives : Half → List ℕ → Option Header → ImageData → Type 0
Gives half bytes None image = (image.half ≡ half) × GivesPlain bytes image
Gives half bytes (Some header) image = (image.half ≡ half) × GivesBorn bytes header image

-- the image of both halves
pub record IsImage (halves : Pair) (image : ImageData) : Type 0 where
  pub headers : Option Header × Option Header
  pub first : HasHeader halves.0 headers.0
  pub second : HasHeader halves.1 headers.1
  pub gives : Gives (live headers.0 headers.1) (part (live headers.0 headers.1) halves)
      (part (live headers.0 headers.1) headers) image
