-- Where an image ends, the image with one record more, and what a crash may leave of it.
use Rattle.std.specs.Prelude.{◌≡◌, ◌+◌, ◌≤◌, ℕ, List, [], ◌∷◌, ◌++◌, length, drop}
use Rattle.heat_disk.specs.declared.half.Half.TheVariants.{First}
use Rattle.heat_disk.specs.Halves.{Pair, part}
use Rattle.row_journal.specs.Forms.{body, spelled, IsSized}
use Rattle.row_journal.specs.Images.{ImageData, IsImage}

-- the place behind its last record
abbrev pub end_of : ImageData → ℕ
end_of image = image.start + length (spelled image.version 1 image.payloads)

-- what stands in the live half from there on
abbrev pub behind : Pair → ImageData → List ℕ
behind halves image = drop (end_of image) (part image.half halves)

-- with one record more
abbrev pub with_next : ImageData → List ℕ → ImageData
with_next image payload = record image { payloads = image.payloads ++ payload ∷ [] }

-- a gate byte 00 in front
pub record IsClosed (bytes : List ℕ) : Type 0 where
  pub rest : List ℕ
  pub gate : bytes ≡ 0 ∷ rest

-- this gate, with the image's next record and a byte 00 behind it
pub record HasNext (image : ImageData) (gate : ℕ) (payload bytes : List ℕ) : Type 0 where
  pub rest : List ℕ
  pub parts : bytes ≡ gate ∷ body image.version (length image.payloads + 1) payload ++ 0 ∷ rest
  pub sized : IsSized payload

-- First is live and has at most 9 bytes, or the image ends at a gate byte in the live half which is 00 or has a
-- whole record and a byte 00 behind it
pub data IsTidy (halves : Pair) (image : ImageData) : Type 0 where
  short : image.half ≡ First → length halves.0 ≤ 9 → IsTidy halves image
  closed : IsClosed (behind halves image) → IsTidy halves image
  whole : (gate : ℕ) (payload : List ℕ) → HasNext image gate payload (behind halves image) → IsTidy halves image

-- these halves have the image and are tidy
pub record Leaves (image : ImageData) (halves : Pair) : Type 0 where
  pub is_image : IsImage halves image
  pub tidy : IsTidy halves image

-- nothing stands behind the image that could come to count: First is live and has at most 9 bytes, or it ends at a gate
-- byte 00
pub data IsSealed (halves : Pair) (image : ImageData) : Type 0 where
  short : image.half ≡ First → length halves.0 ≤ 9 → IsSealed halves image
  closed : IsClosed (behind halves image) → IsSealed halves image

-- these halves have the image, with nothing behind it that could come to count
pub record LeavesSealed (image : ImageData) (halves : Pair) : Type 0 where
  pub is_image : IsImage halves image
  pub sealed : IsSealed halves image

-- They have it, and what stands behind its gate, which isn't open, is this record, whole, and a byte 00. So if that gate
-- came to be open, no other would count.
pub record LeavesAjar (image : ImageData) (payload : List ℕ) (halves : Pair) : Type 0 where
  pub is_image : IsImage halves image
  pub gate : ℕ
  pub next : HasNext image gate payload (behind halves image)

-- the image without this record, with nothing behind it or with this record behind its gate; or the image with it
pub data LeavesEither (image : ImageData) (payload : List ℕ) (halves : Pair) : Type 0 where
  without : LeavesSealed image halves → LeavesEither image payload halves
  ajar : LeavesAjar image payload halves → LeavesEither image payload halves
  added : LeavesSealed (with_next image payload) halves → LeavesEither image payload halves
