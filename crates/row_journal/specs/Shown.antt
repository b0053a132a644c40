-- What a journal shows.
use Rattle.std.specs.Prelude.{ℕ, List, Bool}
use Rattle.row_journal.specs.declared.place.Place.{Place}

-- its disk, where its next record goes, how many bytes its buffer takes without memory, and whether a call failed
pub record JournalData (D : Type 0) : Type 0 where
  pub disk : D
  pub place : Place
  pub room : ℕ
  pub failed : Bool

-- what stands in the buffer, and how many bytes it takes without memory
pub record BufferData : Type 0 where
  pub bytes : List ℕ
  pub room : ℕ
