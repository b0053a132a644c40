-- What is read of both halves, and how the live one ends.
use Rattle.std.specs.Prelude.{◌≡◌, ◌<◌, ◌≤◌, ℕ, List, length, drop}
use Rattle.heat_disk.specs.declared.half.Half.{Half}
use Rattle.heat_disk.specs.declared.half.Half.TheVariants.{First}
use Rattle.heat_disk.specs.Halves.{Pair, part}
use Rattle.row_journal.specs.Images.{ImageData, IsImage}
use Rattle.row_journal.specs.declared.looking.Ending.{Ending}
use Rattle.row_journal.specs.declared.looking.Ending.TheVariants.{Short, Closed, Open}
use Rattle.row_journal.specs.declared.looking.Found.{Found}
use Rattle.row_journal.specs.Ends.{end_of, IsClosed}
use Rattle.row_journal.specs.Pending.{IsPending}
use Rattle.row_journal.specs.Places.{place_of}

-- First and at most 9 bytes; else a gate byte 00 at this place, or none
abbrev pub EndsBy : Half → List ℕ → ℕ → Ending → Type 0
EndsBy half bytes end Short = (half ≡ First) × (length bytes ≤ 9)
EndsBy half bytes end Closed = (half ≡ First → 9 < length bytes) × IsClosed (drop end bytes)
EndsBy half bytes end Open = (half ≡ First → 9 < length bytes) × (IsClosed (drop end bytes) → ⊥)

-- the image of these halves
pub record IsFound (halves : Pair) (found : Found) : Type 0 where
  pub image : ImageData
  pub is_image : IsImage halves image
  pub place : found.place ≡ place_of image
  pub payloads : found.payloads.items ≡ image.payloads
  pub ending : EndsBy image.half (part image.half halves) (end_of image) found.ending
  pub pending : IsPending halves image found.pending
