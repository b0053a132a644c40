-- Texts behind a text or a character, and where a character begins.
use Rattle.std.proofs.Common.{◌≡◌, ◌≢◌, ◌+◌, ◌<◌, ◌≤◌, ◌/◌, ℕ, List, [], ◌∷◌, ◌++◌, length, ◌⊎◌, inl, inr, Bool, true, false, ◌||◌, cond, refl, ap, sym, ◌∙◌, subst, arith, append_assoc}
use lib.Utf8.{encode, next}
use lib.Dec.{T, ltb, lt→ltb, ltb→lt}
use Rattle.std.proofs.lemmas.Bool.{cases_lt, le-leb}
use Rattle.std.specs.Bool.{nat_le}
use Rattle.std.specs.Prelude.{⊤}
use Rattle.std.specs.Char.{encode_utf8}
use Rattle.std.specs.Str.{IsUtf8, IsCharBoundary, encode_utf8_all}
use Rattle.std.proofs.lemmas.Str.{IsUtf8-past_char, IsCharBoundary-at_seam, length-encode, len_utf8_bounds}
use Rattle.hot_strings.specs.Pieces.{at_character}

-- what stands behind a text in a text is a text
pub IsUtf8-behind : (k s rest : List ℕ) → IsUtf8 s → IsUtf8 k → s ≡ k ++ rest → IsUtf8 rest
IsUtf8-behind k s rest text (cs, (scalars, is)) e = go cs s text (e ∙ ap (λ t. t ++ rest) (sym is))
  where
    go : (cs : List ℕ) (s : List ℕ) → IsUtf8 s → s ≡ encode_utf8_all cs ++ rest → IsUtf8 rest
    go [] s text e = subst IsUtf8 e text
    go (c ∷ cs) s text e =
        let front : s ≡ encode_utf8 c ++ (encode_utf8_all cs ++ rest) = e ∙ append_assoc (encode_utf8 c) (encode_utf8_all cs) rest in
        go cs (encode_utf8_all cs ++ rest) (IsUtf8-past_char s (encode_utf8_all cs ++ rest) c text front) refl

-- a text may be cut behind a text
pub IsCharBoundary-behind : (k s rest : List ℕ) → IsUtf8 s → IsUtf8 k → s ≡ k ++ rest → IsCharBoundary s (length k)
IsCharBoundary-behind k s rest text key e = IsCharBoundary-at_seam s k rest e (IsUtf8-behind k s rest text key e)

pub encode_some : (c : ℕ) → encode_utf8 c ≢ []
encode_some c e = absurd (omega (arith, length-encode c, len_utf8_bounds c, ap length e))

-- a text may be cut behind its first character
pub IsCharBoundary-first : (s rest : List ℕ) (c n : ℕ) → IsUtf8 s → s ≡ encode_utf8 c ++ rest → n ≡ length (encode_utf8 c) → IsCharBoundary s n
IsCharBoundary-first s rest c n text e l = rw l (IsCharBoundary-at_seam s (encode_utf8 c) rest e (IsUtf8-past_char s rest c text e))

-- ---- the bytes of a character

-- the bytes of a character behind its first
abbrev pub AreInner : List ℕ → Type 0
AreInner [] = ⊤
AreInner (b ∷ bs) = (128 ≤ b) × (b < 192) × AreInner bs

taken : {X : Type 0} (y : Bool) (a b : X) → T y → cond y a b ≡ a
taken true a b t = refl
taken false a b t = absurd t

passed : {X : Type 0} (m n : ℕ) (a b : X) → n ≤ m → cond (ltb m n) a b ≡ b
passed {X} m n a b le = by_test (ltb m n) refl
  where
    by_test : (y : Bool) → ltb m n ≡ y → cond y a b ≡ b
    by_test true e = let lt : m < n = ltb→lt m n (subst T (sym e) tt) in absurd (omega arith)
    by_test false e = refl

one_byte : (c : ℕ) → c < 128 → encode c ≡ c ∷ []
unfolding encode
one_byte c h = taken (ltb c 128) _ _ (lt→ltb c 128 h)

two_bytes : (c : ℕ) → 128 ≤ c → c < 2048 → encode c ≡ (192 + c / 64) ∷ next c ∷ []
unfolding encode
two_bytes c l h = passed c 128 _ _ l ∙ taken (ltb c 2048) _ _ (lt→ltb c 2048 h)

three_bytes : (c : ℕ) → 2048 ≤ c → c < 65536 → encode c ≡ (224 + c / 4096) ∷ next (c / 64) ∷ next c ∷ []
unfolding encode
three_bytes c l h = passed c 128 _ _ (omega arith) ∙ passed c 2048 _ _ l ∙ taken (ltb c 65536) _ _ (lt→ltb c 65536 h)

four_bytes : (c : ℕ) → 65536 ≤ c → encode c ≡ (240 + c / 262144) ∷ next (c / 4096) ∷ next (c / 64) ∷ next c ∷ []
unfolding encode
four_bytes c l = passed c 128 _ _ (omega arith) ∙ passed c 2048 _ _ (omega arith) ∙ passed c 65536 _ _ l

-- a character's first byte, and those behind it
abbrev pub CharBytes : ℕ → Type 0
CharBytes c = (a : ℕ) × (bs : List ℕ) × (encode_utf8 c ≡ a ∷ bs) × ((a < 128) ⊎ (192 ≤ a)) × AreInner bs

inner : (x : ℕ) (bs : List ℕ) → AreInner bs → AreInner (next x ∷ bs)
inner x bs h = (omega arith, omega arith, h)

pub char_bytes : (c : ℕ) → CharBytes c
char_bytes c = by (cases_lt c 128) (cases_lt c 2048) (cases_lt c 65536)
  where
    by : (c < 128) ⊎ (128 ≤ c) → (c < 2048) ⊎ (2048 ≤ c) → (c < 65536) ⊎ (65536 ≤ c) → CharBytes c
    by (inl h) _ _ = (c, [], one_byte c h, inl h, tt)
    by (inr l) (inl h) _ = (192 + c / 64, next c ∷ [], two_bytes c l h, inr (omega arith), inner c [] tt)
    by (inr _) (inr l) (inl h) = (224 + c / 4096, next (c / 64) ∷ next c ∷ [], three_bytes c l h, inr (omega arith), inner (c / 64) (next c ∷ []) (inner c [] tt))
    by (inr _) (inr _) (inr l) =
        (240 + c / 262144, next (c / 4096) ∷ next (c / 64) ∷ next c ∷ [], four_bytes c l, inr (omega arith), inner (c / 4096) (next (c / 64) ∷ next c ∷ []) (inner (c / 64) (next c ∷ []) (inner c [] tt)))

-- ---- where a character begins

beyond : (n m : ℕ) → m < n → nat_le n m ≡ false
beyond n m l = grind arith

or_true : (t : Bool) → (t || true) ≡ true
or_true true = refl
or_true false = refl

at_character-first : (s : List ℕ) (b : ℕ) → (b < 128) ⊎ (192 ≤ b) → at_character (b ∷ s) ≡ true
at_character-first s b (inl l) = rw (le-leb b 127 (omega arith)) refl
at_character-first s b (inr l) = rw (le-leb 192 b l) (or_true (nat_le b 127))

pub at_character-inner : (s : List ℕ) (b : ℕ) → 128 ≤ b → b < 192 → at_character (b ∷ s) ≡ false
at_character-inner s b low high = rw (beyond b 127 (omega arith), beyond 192 b high) refl

-- a text doesn't begin inside a character
pub at_character-text : (s : List ℕ) → IsUtf8 s → at_character s ≡ true
at_character-text s (cs, (scalar, is)) = rw (← is) (go cs)
  where
    go : (cs : List ℕ) → at_character (encode_utf8_all cs) ≡ true
    go [] = refl
    go (c ∷ cs) = by (char_bytes c)
      where
        by : CharBytes c → at_character (encode_utf8 c ++ encode_utf8_all cs) ≡ true
        by (a, bs, bytes, side, within) = rw bytes (at_character-first (bs ++ encode_utf8_all cs) a side)
