-- Decimal digits and the numbers that they are read as.
use Rattle.std.proofs.Common.{◌≡◌, ◌≢◌, ℕ, ◌<◌, ◌^◌, List, length, get_or, Result, Ok, Err, IfSome, IsNone, decimal, sym, subst, ap, Option, Some, arith}
use Rattle.std.specs.Result.{result_ok}
use Rattle.std.specs.Str.{IsUtf8}
use Rattle.std.specs.Str.Parse.{ParsesUnsigned, AllDigits, digits_value}
use Rattle.std.proofs.lemmas.Fmt.{decimal-digits_value, first_decimal, decimal_nonempty, parse-decimal, IsAscii-decimal}
use Rattle.std.proofs.lemmas.Str.{IsUtf8-from_ascii}
use Rattle.std.proofs.lemmas.Str.Parse.{IsNumeralModel, numerals_by_value, tells_digits, parse_plain}
use Rattle.heat_plan.specs.Numbers.{IsNumber}

own : IsNumeralModel (AllDigits 10) (digits_value 10)
own = numerals_by_value (AllDigits 10) tells_digits

-- a number's digits are there, and the first is above `0`
pub decimal_begins : (n : ℕ) (bs : List ℕ) → IsNumber n → decimal n ≡ bs → (0 < length bs) × (48 < get_or bs 0 0)
decimal_begins n bs is e =
    let small : n < 2 ^ 64 = omega (arith, is.1) in
    let P : List ℕ → Type 0 = λ ds. (0 < length ds) × (48 < get_or ds 0 0) in
    subst P e (decimal_nonempty n small, first_decimal n (omega (arith, is.0)) small)

pub decimal_is_text : (n : ℕ) (bs : List ℕ) → IsNumber n → decimal n ≡ bs → IsUtf8 bs
decimal_is_text n bs is e =
    let small : n < 2 ^ 64 = omega (arith, is.1) in
    let P : List ℕ → Type 0 = λ ds. IsUtf8 ds in
    subst P e (IsUtf8-from_ascii (decimal n) (IsAscii-decimal n small))

-- what is parsed of digits that begin above `0` is the number that they are the decimal of
pub parsed_is_decimal : {E : Type 0} (bs : List ℕ) (r : Result ℕ E) → 48 < get_or bs 0 0 → ParsesUnsigned 64 10 bs r → IfSome (result_ok r) (λ n. decimal n ≡ bs)
parsed_is_decimal bs (Err e) above parses = tt
parsed_is_decimal {E} bs (Ok n) above parses =
    let plus : get_or bs 0 0 ≢ 43 = λ e. absurd (omega arith) in
    let (read, value) = parse_plain own {E = E} 64 bs (Ok n) parses plus in
    rw value (decimal-digits_value own bs read.0 read.1 (λ e. absurd (omega arith)) read.2)

-- where nothing is parsed, the bytes are no number's decimal
pub unparsed_is_none : {E : Type 0} (bs : List ℕ) (r : Result ℕ E) (n : ℕ) → ParsesUnsigned 64 10 bs r → IsNone (result_ok r) → IsNumber n → decimal n ≡ bs → ⊥
unparsed_is_none bs r n parses none is e =
    let small : n < 2 ^ 64 = omega (arith, is.1) in
    let ok : r ≡ Ok n = parse-decimal 64 n bs r small small (sym e) parses in
    contradicts (result_ok r) n (ap result_ok ok) none
  where
    contradicts : (o : Option ℕ) (n : ℕ) → o ≡ Some n → IsNone o → ⊥
    contradicts o n e none = cc
