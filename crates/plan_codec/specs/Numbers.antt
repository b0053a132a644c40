-- Numbers, flags and texts as bytes.
use Rattle.std.specs.Prelude.{ℕ, ◌<◌, ◌^◌, List, [], ◌∷◌, ◌++◌, length, Bool, true, false, IsUtf8}
use Rattle.std.specs.Int.{w64, to_be_bytes}

-- eight bytes, the highest first
unfoldable pub spelled_number : ℕ → List ℕ
spelled_number n = to_be_bytes w64 n

abbrev pub IsWord : ℕ → Type 0
IsWord n = n < 2 ^ 64

abbrev pub IsHalfWord : ℕ → Type 0
IsHalfWord n = n < 2 ^ 32

-- one byte
abbrev pub spelled_flag : Bool → List ℕ
spelled_flag false = 0 ∷ []
spelled_flag true = 1 ∷ []

abbrev pub IsAny : Bool → Type 0
IsAny b = Unit {0}

-- how many bytes, and they
abbrev pub spelled_bytes : List ℕ → List ℕ
spelled_bytes bytes = spelled_number (length bytes) ++ bytes

abbrev pub IsShort : List ℕ → Type 0
IsShort bytes = length bytes < 2 ^ 64

-- UTF-8 of less than 2^64 bytes
abbrev pub IsText : List ℕ → Type 0
IsText s = IsShort s × IsUtf8 s
