-- What the texts of parameters say: numbers, flags and lists.
use Rattle.std.specs.Prelude.{◌≢◌, ℕ, ℤ, List, [], ◌∷◌, Bool, true, false, ◌&&◌, ◌==◌, Option, Some, None}
use Rattle.std.specs.Prelude.{map, codes}
use Rattle.std.specs.Prelude.{bytes_eq, slice_index, length, if◌then◌else◌}
use Rattle.std.specs.List.{list_any, slice_split}
use Rattle.std.specs.Char.{to_ascii_lowercase}
use Rattle.std.specs.Int.{w64}
use Rattle.std.specs.Str.Parse.{IsNumeral, without_leading_sign, signed_digits_value}
use mir.Val.{SFits}

-- ---- numbers

-- an optional `-` and digits, of a value of 64 bits with sign
pub record IsWholeText (s : List ℕ) : Type 0 where
  pub no_plus : slice_index s 0 ≢ 43
  pub digits : IsNumeral 10 (without_leading_sign s)
  pub fits : SFits w64 (signed_digits_value 10 s)

-- the number that they write
abbrev pub whole_of : List ℕ → ℤ
whole_of s = signed_digits_value 10 s

-- ---- flags

-- the two are one text, ignoring the case of ASCII letters
abbrev pub is_spelled : List ℕ → List ℕ → Bool
is_spelled s word = bytes_eq (map to_ascii_lowercase s) (map to_ascii_lowercase word)

-- the text is one of these words, ignoring case
abbrev pub is_word_of : List (List ℕ) → List ℕ → Bool
is_word_of known s = list_any (is_spelled s) known

abbrev pub yes_words : List (List ℕ)
yes_words = codes "t" ∷ codes "true" ∷ codes "on" ∷ codes "y" ∷ codes "yes" ∷ codes "1" ∷ []

abbrev pub no_words : List (List ℕ)
no_words = codes "f" ∷ codes "false" ∷ codes "off" ∷ codes "n" ∷ codes "no" ∷ codes "0" ∷ []

-- the flag that a text says
abbrev pub flag_said : List ℕ → Option Bool
flag_said s = if is_word_of yes_words s then Some true else (if is_word_of no_words s then Some false else None)

-- ---- lists

-- the text cut at each comma
abbrev pub pieces : List ℕ → List (List ℕ)
pieces = slice_split (λ b. b == 44)

-- the text without the spaces at its front
abbrev pub without_front : List ℕ → List ℕ
without_front [] = []
without_front (b ∷ bs) = if b == 32 then without_front bs else b ∷ bs

abbrev pub is_nothing : List ℕ → Bool
is_nothing [] = true
is_nothing (b ∷ bs) = false

-- the byte before what is left, unless it is a space before nothing
abbrev pub onto_rest : ℕ → List ℕ → List ℕ
onto_rest b rest = if b == 32 && is_nothing rest then [] else b ∷ rest

-- the text without the spaces at its end
abbrev pub without_back : List ℕ → List ℕ
without_back [] = []
without_back (b ∷ bs) = onto_rest b (without_back bs)

-- the text without the spaces at both ends
abbrev pub trimmed : List ℕ → List ℕ
trimmed s = without_front (without_back s)

-- the items that a text lists: its pieces between commas, trimmed; the empty text lists none
abbrev pub listed_in : List ℕ → List (List ℕ)
listed_in s = if length s == 0 then [] else map trimmed (pieces s)
