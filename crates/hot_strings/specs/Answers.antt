-- The one answer of each text function, read from left to right.
use Rattle.std.specs.Prelude.{◌≡◌, ℕ, zero, suc, pred, List, [], ◌∷◌, ◌++◌, ◌&&◌, ◌||◌, ◌==◌, length, Bool, true, false, Option, Some, None}
use Rattle.std.specs.Prelude.{nat_le, bytes_eq, codes, if◌then◌else◌}
use Rattle.md5.specs.Md5.{md5 as md5_of}
use Rattle.sha1.specs.Sha1.{sha1 as sha1_of}
use Rattle.sha2.specs.Sha256.{sha224 as sha224_of, sha256 as sha256_of}
use Rattle.sha2.specs.Sha512.{sha384 as sha384_of, sha512 as sha512_of}
use Rattle.hex.specs.Hex.{encode_lower}
use Rattle.hot_strings.specs.Pieces.{Params, Piece, ArePieces, at_character, replaced}

-- d stands at the front of s
abbrev pub begins : List ℕ → List ℕ → Bool
begins [] s = true
begins (x ∷ d) [] = false
begins (x ∷ d) (y ∷ s) = (x == y) && begins d s

-- d stands somewhere in s
abbrev pub is_part : List ℕ → List ℕ → Bool
is_part d [] = begins d []
is_part d (b ∷ s) = begins d (b ∷ s) || is_part d s

-- ---- str_split

-- a byte before the first piece
abbrev pub onto_first : ℕ → List (List ℕ) → List (List ℕ)
onto_first b [] = []
onto_first b (p ∷ ps) = (b ∷ p) ∷ ps

-- the pieces between delimiters, behind n bytes of one
abbrev pub cut_behind : List ℕ → ℕ → List ℕ → List (List ℕ)
cut_behind d n [] = [] ∷ []
cut_behind d zero (b ∷ s) =
    if begins d (b ∷ s) then [] ∷ cut_behind d (pred (length d)) s else onto_first b (cut_behind d zero s)
cut_behind d (suc n) (b ∷ s) = cut_behind d n s

-- the text cut wherever the delimiter stands, from left to right
abbrev pub cuts : List ℕ → List ℕ → List (List ℕ)
cuts d s = cut_behind d 0 s

-- ---- str_replace

-- how long a key is that was found
abbrev pub key_length : Option (List ℕ × List ℕ) → ℕ
key_length None = 0
key_length (Some p) = length p.0

-- the longest key that stands at the front of s, with its value
abbrev pub longest_at : Params → List ℕ → Option (List ℕ × List ℕ)
longest_at [] s = None
longest_at (p ∷ ps) s =
    if begins p.0 s && nat_le (key_length (longest_at ps s)) (length p.0) then Some p else longest_at ps s

-- the same where s doesn't begin inside a character, and none where it does
abbrev pub key_at : Params → List ℕ → Option (List ℕ × List ℕ)
key_at params s = if at_character s then longest_at params s else None

-- what is put where a key stands, or else the byte there
abbrev pub put_for : ℕ → Option (List ℕ × List ℕ) → List ℕ
put_for b None = b ∷ []
put_for b (Some p) = p.1

-- each key's value in the key's place, behind n bytes of a key that was replaced
abbrev pub put_behind : Params → ℕ → List ℕ → List ℕ
put_behind params n [] = []
put_behind params zero (b ∷ s) =
    put_for b (key_at params (b ∷ s)) ++ put_behind params (pred (key_length (key_at params (b ∷ s)))) s
put_behind params (suc n) (b ∷ s) = put_behind params n s

-- one pass: where a character begins and a key stands, the longest key there is replaced by its value, and reading goes on behind it
abbrev pub with_values : Params → List ℕ → List ℕ
with_values params s = put_behind params 0 s

-- what stands in place of the template's pieces is that
abbrev pub HasAnswer : Params → List ℕ → Type 0
HasAnswer params s = (ps : List Piece) → ArePieces params s ps → with_values params s ≡ replaced ps

-- ---- digest

-- lower-case hex of the digest of that name; none is there of another name
abbrev pub digest_of : List ℕ → List ℕ → Option (List ℕ)
digest_of name text =
    if bytes_eq name (codes "md5") then Some (encode_lower (md5_of text)) else (
    if bytes_eq name (codes "sha1") then Some (encode_lower (sha1_of text)) else (
    if bytes_eq name (codes "sha224") then Some (encode_lower (sha224_of text)) else (
    if bytes_eq name (codes "sha256") then Some (encode_lower (sha256_of text)) else (
    if bytes_eq name (codes "sha384") then Some (encode_lower (sha384_of text)) else (
    if bytes_eq name (codes "sha512") then Some (encode_lower (sha512_of text)) else None)))))
