-- What a sheet shows, and what stands on it once more is put.
use Rattle.std.specs.Prelude.{ℕ, ◌+◌, ◌-◌, ◌^◌, List, [], ◌++◌, length, min, take}

-- the bytes that were kept, how many there is room for, and how many were put, up to 2^64 - 1
pub record SheetData : Type 0 where
  pub kept : List ℕ
  pub room : ℕ
  pub count : ℕ

-- nothing was put
abbrev pub blank : ℕ → SheetData
blank room = record { kept = []; room = room; count = 0 }

-- the sheet with bytes put behind its last
unfoldable pub behind : SheetData → List ℕ → SheetData
behind s bytes = record {
  kept = take s.room (s.kept ++ bytes);
  room = s.room;
  count = min (s.count + length bytes) (2 ^ 64 - 1);
}
