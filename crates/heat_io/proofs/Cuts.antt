-- The first line of a script, and what is behind it.
use Rattle.std.proofs.Common.{◌≡◌, ℕ, suc, ◌+◌, ◌<◌, List, [], ◌∷◌, ◌++◌, Bool, true, false, length, take, refl, ap, sym, ◌∙◌, arith, length-append}
use Rattle.std.specs.Io.BufRead.{strip_last}
use Rattle.std.proofs.lemmas.List.{drop-append-le}
use Rattle.std.proofs.Math.ListN.{drop_of_length-le}
use Rattle.heat_io.proofs.Ends.{position_or_len-within}
use Rattle.heat_io.specs.Lines.{is_lf, onto_first, cut_lines, length_of_line, behind_line, size_of_line}

-- a byte in front of two or more changes nothing at their end
pub strip_last-cons : (byte b c : ℕ) (xs : List ℕ) → strip_last byte (b ∷ c ∷ xs) ≡ b ∷ strip_last byte (c ∷ xs)
strip_last-cons byte b c xs = grind arith

-- the first line ends at an LF
abbrev EndsAtLf : List ℕ → Type 0
EndsAtLf xs = length_of_line xs < length xs → cut_lines xs ≡ strip_last 13 (take (length_of_line xs) xs) ∷ cut_lines (behind_line xs)

-- a byte in front that is no LF
length_of_line-cons : (b : ℕ) (xs : List ℕ) → is_lf b ≡ false → length_of_line (b ∷ xs) ≡ suc (length_of_line xs)
length_of_line-cons b xs inner = grind (arith, inner)

behind_line-cons : (b : ℕ) (xs : List ℕ) → is_lf b ≡ false → behind_line (b ∷ xs) ≡ behind_line xs
behind_line-cons b xs inner = rw (length_of_line-cons b xs inner) (grind arith)

cut_lines-inner : (b c : ℕ) (xs : List ℕ) → is_lf b ≡ false → is_lf c ≡ false → cut_lines (b ∷ c ∷ xs) ≡ onto_first b (cut_lines (c ∷ xs))
cut_lines-inner b c xs b_is c_is = grind (arith, b_is, c_is)

-- by the first two bytes
cut_lines-two : (b c : ℕ) (xs : List ℕ) (b_ends c_ends : Bool) → is_lf b ≡ b_ends → is_lf c ≡ c_ends → EndsAtLf (c ∷ xs) → EndsAtLf (b ∷ c ∷ xs)
cut_lines-two b c xs true c_ends b_is c_is rest lt = grind (arith, b_is)
cut_lines-two b c xs false true b_is c_is rest lt = grind (arith, b_is, c_is, rest)
cut_lines-two b c xs false false b_is c_is rest lt =
    let ends = length_of_line-cons b (c ∷ xs) b_is in
    let next = length_of_line-cons c xs c_is in
    let line : b ∷ strip_last 13 (take (length_of_line (c ∷ xs)) (c ∷ xs)) ≡ strip_last 13 (take (length_of_line (b ∷ c ∷ xs)) (b ∷ c ∷ xs)) =
    ap (λ count. b ∷ strip_last 13 (take count (c ∷ xs))) next
    ∙ sym (strip_last-cons 13 b c (take (length_of_line xs) xs))
    ∙ sym (ap (λ count. strip_last 13 (take count (b ∷ c ∷ xs))) (ends ∙ ap suc next)) in
    cut_lines-inner b c xs b_is c_is
    ∙ ap (onto_first b) (rest (omega (arith, lt, ends)))
    ∙ ap (λ first. first ∷ cut_lines (behind_line (c ∷ xs))) line
    ∙ ap (λ bytes. strip_last 13 (take (length_of_line (b ∷ c ∷ xs)) (b ∷ c ∷ xs)) ∷ cut_lines bytes) (sym (behind_line-cons b (c ∷ xs) b_is))

pub cut_lines-lf : (xs : List ℕ) → EndsAtLf xs
cut_lines-lf [] = λ lt. absurd (omega (arith, lt))
cut_lines-lf (b ∷ []) = λ lt. grind (arith, lt)
cut_lines-lf (b ∷ c ∷ xs) = cut_lines-two b c xs (is_lf b) (is_lf c) refl refl (cut_lines-lf (c ∷ xs))

-- there is no LF
pub cut_lines-end : (xs : List ℕ) → length_of_line xs ≡ length xs → 0 < length xs → cut_lines xs ≡ xs ∷ []
cut_lines-end [] none some = absurd (omega (arith, some))
cut_lines-end (b ∷ []) none some = grind (arith, none)
cut_lines-end (b ∷ c ∷ xs) none some = grind (arith, none, cut_lines-end (c ∷ xs))

-- with more behind an LF
pub behind_line-append : (xs ys : List ℕ) → length_of_line xs < length xs → behind_line (xs ++ ys) ≡ behind_line xs ++ ys
behind_line-append xs ys lt = rw (position_or_len-within is_lf xs ys lt) (drop-append-le (length_of_line xs + 1) xs ys (omega (arith, lt)))

pub size_of_line-append : (xs ys : List ℕ) → length_of_line xs < length xs → size_of_line (xs ++ ys) ≡ size_of_line xs
size_of_line-append xs ys lt = omega (arith, lt, position_or_len-within is_lf xs ys lt, length-append xs ys)

-- nothing is behind where there is no LF
pub behind_line-end : (xs : List ℕ) → length_of_line xs ≡ length xs → behind_line xs ≡ []
behind_line-end xs none = drop_of_length-le xs (omega (arith, none))
