-- The words of a text: bytes that aren't spaces, parted by spaces. A space is the byte 32 alone.
use Rattle.std.specs.Prelude.{◌≡◌, ◌≢◌, ◌<◌, ℕ, List, [], ◌∷◌, ◌++◌, length, All, ⊤}

-- spaces alone, or nothing
abbrev pub AreSpaces : List ℕ → Type 0
AreSpaces text = All (λ b. b ≡ 32) text

-- nothing, or first a byte that isn't a space
abbrev pub BeginsUnspaced : List ℕ → Type 0
BeginsUnspaced [] = ⊤
BeginsUnspaced (b ∷ bs) = b ≢ 32

-- nothing, or first a space
abbrev pub BeginsSpaced : List ℕ → Type 0
BeginsSpaced [] = ⊤
BeginsSpaced (b ∷ bs) = b ≡ 32

-- the rest of a text behind the spaces that it begins with
pub record StandsBehindSpaces (text rest : List ℕ) : Type 0 where
  pub gap : List ℕ
  pub spaces : AreSpaces gap
  pub parts : text ≡ gap ++ rest
  pub begins : BeginsUnspaced rest

-- one byte or more, none of them a space
pub record IsWord (word : List ℕ) : Type 0 where
  pub some : 0 < length word
  pub unspaced : All (λ b. b ≢ 32) word

-- behind spaces a text begins with the word, which ends there, and goes on with the rest
pub record BeginsWith (text word rest : List ℕ) : Type 0 where
  pub behind : StandsBehindSpaces text (word ++ rest)
  pub is_word : IsWord word
  pub ends : BeginsSpaced rest
