-- What would come to count, if the gate behind the image came to be open.
use Rattle.std.specs.Prelude.{◌≡◌, ◌≢◌, ◌+◌, ◌++◌, ◌∷◌, ℕ, List, Option, Some, None, length}
use Rattle.heat_disk.specs.Halves.{Pair}
use Rattle.row_journal.specs.declared.version.Version.{Version}
use Rattle.row_journal.specs.declared.contents.Contents.{Contents}
use Rattle.row_journal.specs.Ends.{behind}
use Rattle.row_journal.specs.Forms.{body, IsSized}
use Rattle.row_journal.specs.Images.{ImageData, IsImage}

-- this record stands in front, whole but for its gate, and a byte 00 behind it
pub record IsWhole (version : Version) (n : ℕ) (bytes payload : List ℕ) : Type 0 where
  pub rest : List ℕ
  pub parts : bytes ≡ body version n payload ++ 0 ∷ rest
  pub sized : IsSized payload

-- so behind a gate that isn't closed
pub record StandsBehind (version : Version) (n : ℕ) (bytes payload : List ℕ) : Type 0 where
  pub gate : ℕ
  pub torn : gate ≢ 0
  pub record_bytes : List ℕ
  pub front : bytes ≡ gate ∷ record_bytes
  pub whole : IsWhole version n record_bytes payload

-- the one payload of which this holds; none where it holds of none
abbrev pub IsThe : (List ℕ → Type 0) → Option (List ℕ) → Type 0
IsThe P None = (payload : List ℕ) → ¬ P payload
IsThe P (Some payload) = P payload

-- the image's next record, whole behind a gate that is neither 00 nor 01
abbrev pub IsPending : Pair → ImageData → Option (List ℕ) → Type 0
IsPending halves image = IsThe (StandsBehind image.version (length image.payloads + 1) (behind halves image))

-- the payloads of the image of these halves, and what stands behind it
pub record AreContents (halves : Pair) (c : Contents) : Type 0 where
  pub image : ImageData
  pub is_image : IsImage halves image
  pub payloads : c.payloads.items ≡ image.payloads
  pub pending : IsPending halves image c.pending
