-- The pieces of a template, and what stands in their place.
use Rattle.std.specs.Prelude.{◌≡◌, ◌≢◌, ◌≤◌, ℕ, Bool, List, [], ◌∷◌, ◌++◌, length, All}
use Rattle.std.specs.Prelude.{true, ◌||◌, nat_le, Any, Contains, flat_map, encode_utf8, IsTrue, ⊤}
use Rattle.std.specs.Char.{IsScalar}
use Rattle.hot_strings.specs.Places.{Begins, IsPart, Lacks}

-- keys with their values
abbrev pub Params : Type 0
Params = List (List ℕ × List ℕ)

-- a key with its value, or one character
pub data Piece : Type 0 where
  key : List ℕ → List ℕ → Piece
  character : ℕ → Piece

-- what the piece is in the template
abbrev pub source : Piece → List ℕ
source (key k v) = k
source (character c) = encode_utf8 c

-- what stands in its place in the result
abbrev pub target : Piece → List ℕ
target (key k v) = v
target (character c) = encode_utf8 c

-- no key is longer of those that stand at the front of s
pub record IsLongestKey (params : Params) (s k v : List ℕ) : Type 0 where
  pub listed : Contains params (k, v)
  pub stands : Begins k s
  pub longest : All (λ p. Begins p.0 s → length p.0 ≤ length k) params

-- no key stands at the front of s
abbrev pub NoKeyBegins : Params → List ℕ → Type 0
NoKeyBegins params s = All (λ p. ¬ (Begins p.0 s)) params

-- s doesn't begin inside a character: its first byte is none of those that stand behind a character's first
abbrev pub at_character : List ℕ → Bool
at_character [] = true
at_character (b ∷ s) = nat_le b 127 || nat_le 192 b

-- the piece that s begins with: the longest key there, where a character begins; or a character, where no key stands
abbrev pub IsFirstPiece : Params → List ℕ → Piece → Type 0
IsFirstPiece params s (key k v) = IsTrue (at_character s) × IsLongestKey params s k v
IsFirstPiece params s (character c) = IsScalar c × NoKeyBegins params s

-- the pieces, in order, are the whole text
abbrev pub ArePieces : Params → List ℕ → List Piece → Type 0
ArePieces params s [] = s ≡ []
ArePieces params s (p ∷ ps) =
    (rest : List ℕ) × (s ≡ source p ++ rest) × IsFirstPiece params s p × ArePieces params rest ps

-- the text with each key's value in the key's place
abbrev pub replaced : List Piece → List ℕ
replaced ps = flat_map target ps

abbrev pub IsReplaced : Params → List ℕ → List ℕ → Type 0
IsReplaced params s r = (ps : List Piece) × ArePieces params s ps × (r ≡ replaced ps)

-- no two keys are the same
abbrev pub AreDistinct : Params → Type 0
AreDistinct [] = ⊤
AreDistinct (p ∷ ps) = All (λ q. q.0 ≢ p.0) ps × AreDistinct ps

abbrev pub HasEmptyKey : Params → Type 0
HasEmptyKey params = Any (λ p. p.0 ≡ []) params

abbrev pub HasNoEmptyKey : Params → Type 0
HasNoEmptyKey params = All (λ p. p.0 ≢ []) params

-- some key stands nowhere in the template
abbrev pub LacksSomeKey : Params → List ℕ → Type 0
LacksSomeKey params s = Any (λ p. Lacks p.0 s) params

-- every key stands somewhere in the template
abbrev pub HasEveryKey : Params → List ℕ → Type 0
HasEveryKey params s = All (λ p. IsPart p.0 s) params
