-- The bytes of a journal: its marks, its records, and where a row of records ends.
use Rattle.std.specs.Prelude.{◌≡◌, ◌≢◌, ◌<◌, ◌+◌, ◌^◌, ℕ, List, [], ◌∷◌, ◌++◌, length, All}
use Rattle.std.specs.Int.{w64, to_be_bytes, from_be_bytes}
use Rattle.row_journal.specs.declared.version.Version.{Version}
use Rattle.row_journal.specs.declared.version.Version.TheVariants.{One, Two}

-- a number as 8 bytes, the highest first
abbrev pub word : ℕ → List ℕ
word n = to_be_bytes w64 n

-- the number that 8 bytes spell
abbrev pub number : List ℕ → ℕ
number bytes = from_be_bytes w64 bytes

-- HEATJ001 and HEATJ002, at the front of a journal
abbrev pub journal_mark : Version → List ℕ
journal_mark One = 72 ∷ 69 ∷ 65 ∷ 84 ∷ 74 ∷ 48 ∷ 48 ∷ 49 ∷ []
journal_mark Two = 72 ∷ 69 ∷ 65 ∷ 84 ∷ 74 ∷ 48 ∷ 48 ∷ 50 ∷ []

-- HEATS001 and HEATS002, at the front of a snapshot
abbrev pub snapshot_mark : Version → List ℕ
snapshot_mark One = 72 ∷ 69 ∷ 65 ∷ 84 ∷ 83 ∷ 48 ∷ 48 ∷ 49 ∷ []
snapshot_mark Two = 72 ∷ 69 ∷ 65 ∷ 84 ∷ 83 ∷ 48 ∷ 48 ∷ 50 ∷ []

-- what stands behind a record's gate: the payload's length, in version 2 the record's number, the payload
abbrev pub body : Version → ℕ → List ℕ → List ℕ
body One n payload = word (length payload) ++ payload
body Two n payload = word (length payload) ++ word n ++ payload

-- a record behind its open gate
abbrev pub record_of : Version → ℕ → List ℕ → List ℕ
record_of version n payload = 1 ∷ body version n payload

-- records behind one another, numbered from n on
abbrev pub spelled : Version → ℕ → List (List ℕ) → List ℕ
spelled version n [] = []
spelled version n (payload ∷ payloads) = record_of version n payload ++ spelled version (n + 1) payloads

-- no open gate stands there: another gate, or the end of the file
abbrev pub IsEnd : List ℕ → Type 0
IsEnd [] = Unit {0}
IsEnd (gate ∷ rest) = gate ≢ 1

-- a length that 8 bytes can spell
abbrev pub IsSized : List ℕ → Type 0
IsSized payload = length payload < 2 ^ 64

-- the bytes are these payloads' records, numbered from n on, and what is ignored behind the last
pub record AreRecords (version : Version) (n : ℕ) (bytes : List ℕ) (payloads : List (List ℕ)) : Type 0 where
  pub tail : List ℕ
  pub parts : bytes ≡ spelled version n payloads ++ tail
  pub ends : IsEnd tail
  pub sized : All IsSized payloads
