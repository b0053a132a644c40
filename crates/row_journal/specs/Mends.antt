-- What a recovery mends, what it then has written, and what a crash inside it may leave.
use Rattle.std.specs.Prelude.{◌≡◌, ◌≢◌, ◌⊎◌, ◌<◌, ◌≤◌, ℕ, List, [], ◌∷◌, ◌++◌, length}
use Rattle.heat_disk.specs.declared.half.Half.{Half}
use Rattle.heat_disk.specs.declared.half.Half.TheVariants.{First, Second}
use Rattle.heat_disk.specs.Halves.{Pair, part, changed}
use Rattle.heat_disk.specs.Images.{overwritten}
use Rattle.heat_disk.specs.Shown.{ShownDisk, IsDurable}
use Rattle.row_journal.specs.declared.version.Version.TheVariants.{Two}
use Rattle.row_journal.specs.Forms.{journal_mark}
use Rattle.row_journal.specs.Images.{ImageData, IsImage}
use Rattle.row_journal.specs.declared.looking.Ending.{Ending}
use Rattle.row_journal.specs.declared.place.Place.{Place}
use Rattle.row_journal.specs.Ends.{end_of, behind, with_next, IsClosed, HasNext, LeavesSealed, LeavesAjar}
use Rattle.row_journal.specs.Found.{EndsBy}
use Rattle.row_journal.specs.Places.{place_of}

-- the half that isn't this one
abbrev pub other : Half → Half
other First = Second
other Second = First

-- both halves have the image and its ending, and all of it is on the disk
pub record IsSettled (image : ImageData) (ending : Ending) (disk : ShownDisk) : Type 0 where
  pub is_image : IsImage disk.seen image
  pub ends : EndsBy image.half (part image.half disk.seen) (end_of image) ending
  pub durable : IsDurable disk

-- a journal's numbers are those of such an image
pub record SettlesAt (place : Place) (ending : Ending) (disk : ShownDisk) : Type 0 where
  pub image : ImageData
  pub numbers : place ≡ place_of image
  pub settled : IsSettled image ending disk

-- The image; or, where a gate other than 00 with a whole record behind it ended the image before, the image with this
-- record. Where another gate that isn't open ends it, that record and no other stands behind it still.
pub data Mended (image : ImageData) (before halves : Pair) : Type 0 where
  same : LeavesSealed image halves → Mended image before halves
  ajar : (gate : ℕ) (payload : List ℕ) → gate ≢ 0 → HasNext image gate payload (behind before image)
      → LeavesAjar image payload halves → Mended image before halves
  grown : (gate : ℕ) (payload : List ℕ) → gate ≢ 0 → HasNext image gate payload (behind before image)
      → LeavesSealed (with_next image payload) halves → Mended image before halves

-- Inside a recovery a crash leaves what it might have left before, or what the mending may leave.
abbrev pub Recovering : ShownDisk → ImageData → Pair → Type 0
Recovering old image halves = old.may_leave halves ⊎ Mended image old.seen halves

-- the bytes of both halves after it: an empty journal in place of a First of at most 9 bytes; else as before, or, where
-- the image didn't end at a gate 00, with one there
pub data HasMended (image : ImageData) (before after : Pair) : Type 0 where
  begun : image.half ≡ First → length (part image.half before) ≤ 9
      → after ≡ (journal_mark Two ++ 0 ∷ [], before.1) → HasMended image before after
  as_it_was : (image.half ≡ First → 9 < length (part image.half before)) → IsClosed (behind before image)
      → after ≡ before → HasMended image before after
  shut : (image.half ≡ First → 9 < length (part image.half before)) → (IsClosed (behind before image) → ⊥)
      → after ≡ changed image.half (overwritten (end_of image) (0 ∷ [])) before → HasMended image before after
