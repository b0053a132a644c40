-- A name stands in quotes as it is: digits have no escape.
use Rattle.std.proofs.Common.{◌≡◌, ℕ, zero, suc, ◌-◌, ◌<◌, ◌≤◌, ◌^◌, List, [], ◌∷◌, ◌++◌, length, replicate, false, refl, ap, arith, append-nil, decimal}
use Rattle.std.specs.Str.Parse.{AllDigits}
use Rattle.std.specs.Fmt.{padded_integral, char_count, format_spec}
use Rattle.std.proofs.lemmas.Fmt.{decimal_is_IsNumeral}
use Rattle.std.proofs.lemmas.Str.Parse.{digit_from_value}
use Rattle.json.specs.Print.{escape_byte, escape, quoted}
use Rattle.script_generator.specs.Resources.{four_digits, name_of}

-- a digit is written as it is
digit_stays : (x : ℕ) → 48 ≤ x → x ≤ 57 → escape_byte x ≡ x ∷ []
unfolding escape_byte
digit_stays x low high = grind arith

digits_stay : (ds : List ℕ) → AllDigits 10 ds → escape ds ≡ ds
digits_stay [] all = refl
digits_stay (d ∷ ds) all =
    let digit = digit_from_value d all.0 in
    rw (digit_stays d (omega arith) (omega arith)) (ap (λ x. d ∷ x) (digits_stay ds all.1))

zeros_stay : (k : ℕ) (ds : List ℕ) → escape ds ≡ ds → escape (replicate k 48 ++ ds) ≡ replicate k 48 ++ ds
unfolding escape_byte
zeros_stay zero ds same = same
zeros_stay (suc k) ds same = ap (λ x. 48 ∷ x) (zeros_stay k ds same)

-- a name is written as it is, in quotes
pub quoted_name : (i : ℕ) → i < 2 ^ 64 → quoted (name_of i) ≡ 34 ∷ (name_of i ++ 34 ∷ [])
unfolding escape_byte
quoted_name i small = ap (λ x. 34 ∷ 114 ∷ (x ++ 34 ∷ [])) (zeros_stay (4 - length (decimal i)) (decimal i) (digits_stay (decimal i) (decimal_is_IsNumeral i small).0.1))

-- what `{:04}` writes
pub zero_filled : (i : ℕ) → padded_integral (format_spec 32 0 4 4 (2 ^ 64 - 1)) false [] (decimal i) ≡ four_digits i
unfolding padded_integral char_count
zero_filled i =
    let same : 4 - length (decimal i) - 0 - 0 ≡ 4 - length (decimal i) = omega arith in
    λ j. replicate (same j) 48 ++ append-nil (decimal i) j
