-- A text has at most one first word, and none where it is spaces alone.
use Rattle.std.proofs.Common.{◌≡◌, ◌≢◌, ◌∙◌, ℕ, List, [], ◌∷◌, ◌++◌, All, refl, sym, subst, arith}
use Rattle.std.proofs.lemmas.List.Elements.{All-tail}
use Rattle.script_lines.specs.Words.{AreSpaces, BeginsUnspaced, BeginsSpaced, StandsBehindSpaces, IsWord, BeginsWith}

-- a byte that isn't a space
abbrev pub NoSpace : ℕ → Type 0
NoSpace b = b ≢ 32

space_first : (b : ℕ) (s : List ℕ) → AreSpaces (b ∷ s) → b ≡ 32
space_first b s spaces = spaces 0 0 (omega arith)

space_rest : (b : ℕ) (s : List ℕ) → AreSpaces (b ∷ s) → AreSpaces s
space_rest b s spaces = All-tail (λ (k : ℕ). k ≡ 32) b s spaces

letter_first : (b : ℕ) (s : List ℕ) → All NoSpace (b ∷ s) → b ≢ 32
letter_first b s letters = letters 0 0 (omega arith)

letter_rest : (b : ℕ) (s : List ℕ) → All NoSpace (b ∷ s) → All NoSpace s
letter_rest b s letters = All-tail NoSpace b s letters

-- what stands behind the first spaces is one text
pub behind_unique : (g h x y : List ℕ) → AreSpaces g → AreSpaces h → BeginsUnspaced x → BeginsUnspaced y → g ++ x ≡ h ++ y → x ≡ y
behind_unique [] [] x y gs hs xb yb e = e
behind_unique [] (b ∷ h) x y gs hs xb yb e = absurd (subst BeginsUnspaced e xb (space_first b h hs))
behind_unique (a ∷ g) [] x y gs hs xb yb e = absurd (subst BeginsUnspaced (sym e) yb (space_first a g gs))
behind_unique (a ∷ g) (b ∷ h) x y gs hs xb yb e =
    let rest : g ++ x ≡ h ++ y = cc in
    behind_unique g h x y (space_rest a g gs) (space_rest b h hs) xb yb rest

-- a word ends at the first space
pub ends_unique : (w v x y : List ℕ) → All NoSpace w → All NoSpace v → BeginsSpaced x → BeginsSpaced y → w ++ x ≡ v ++ y → (w ≡ v) × (x ≡ y)
ends_unique [] [] x y ws vs xb yb e = (refl, e)
ends_unique [] (b ∷ v) x y ws vs xb yb e = absurd (letter_first b v vs (subst BeginsSpaced e xb))
ends_unique (a ∷ w) [] x y ws vs xb yb e = absurd (letter_first a w ws (subst BeginsSpaced (sym e) yb))
ends_unique (a ∷ w) (b ∷ v) x y ws vs xb yb e =
    let rest : w ++ x ≡ v ++ y = cc in
    let head : a ≡ b = cc in
    let (front, back) = ends_unique w v x y (letter_rest a w ws) (letter_rest b v vs) xb yb rest in
    (cc, back)

pub word_unique : (text w v r s : List ℕ) → BeginsWith text w r → BeginsWith text v s → (w ≡ v) × (r ≡ s)
word_unique text w v r s a b =
    ends_unique w v r s a.is_word.unspaced b.is_word.unspaced a.ends b.ends
    (behind_unique a.behind.gap b.behind.gap (w ++ r) (v ++ s) a.behind.spaces b.behind.spaces a.behind.begins b.behind.begins
    (sym a.behind.parts ∙ b.behind.parts))

pub text_unique : (more s t : List ℕ) → StandsBehindSpaces more s → StandsBehindSpaces more t → s ≡ t
text_unique more s t a b = behind_unique a.gap b.gap s t a.spaces b.spaces a.begins b.begins (sym a.parts ∙ b.parts)

spaces_end : (g w r : List ℕ) → AreSpaces (g ++ (w ++ r)) → IsWord w → ⊥
spaces_end [] [] r spaces is = absurd (omega (arith, is.some))
spaces_end [] (b ∷ w) r spaces is = letter_first b w is.unspaced (space_first b (w ++ r) spaces)
spaces_end (a ∷ g) w r spaces is = spaces_end g w r (space_rest a (g ++ (w ++ r)) spaces) is

-- spaces have no word
pub no_word : (text w r : List ℕ) → BeginsWith text w r → AreSpaces text → ⊥
no_word text w r b spaces = spaces_end b.behind.gap w r (subst AreSpaces b.behind.parts spaces) b.is_word
