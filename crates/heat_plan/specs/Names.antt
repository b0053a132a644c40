-- The grammar of names.
use Rattle.std.specs.Prelude.{◌≡◌, ◌⊎◌, ◌<◌, ◌≤◌, ℕ, List, length, All, slice_index}
use Rattle.std.specs.Char.{IsAsciiAlphanumeric, IsAsciiAlphabetic}

-- a letter, a digit, `_`, `.` or `-`
abbrev pub IsNameByte : ℕ → Type 0
IsNameByte b = IsAsciiAlphanumeric b ⊎ ((b ≡ 95) ⊎ ((b ≡ 46) ⊎ (b ≡ 45)))

-- 1 to 255 name bytes
pub record IsResName (text : List ℕ) : Type 0 where
  pub some : 0 < length text
  pub few : length text ≤ 255
  pub each : All IsNameByte text

-- 1 to 255 name bytes, of which the first is a letter
pub record IsStackName (text : List ℕ) : Type 0 where
  pub name : IsResName text
  pub letter : IsAsciiAlphabetic (slice_index text 0)
