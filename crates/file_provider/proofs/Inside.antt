-- No token's name leads out of its folder.
use Rattle.std.proofs.Common.{◌≢◌, ℕ, ◌<◌, ◌^◌, List, [], ◌∷◌, ◌++◌, length, subst, arith}
use Rattle.std.specs.Prelude.{decimal, slice_index}
use Rattle.std.specs.Char.{IsAsciiAlphabetic, digit_value}
use Rattle.std.specs.Str.Parse.{AllDigits}
use Rattle.std.proofs.lemmas.Fmt.{decimal_is_IsNumeral}
use Rattle.std.proofs.lemmas.List.Elements.{All-nil, All-cons, All-append}
use Rattle.heat_plan.specs.Tokens.{IsToken}
use Rattle.heat_plan.specs.declared.token.Token.{Token}
use Rattle.heat_plan.proofs.Parts.{NoSlash, name_has_none}
use Rattle.file_provider.specs.Names.{name_of, IsInside}

digit_apart : (b : ℕ) → digit_value b < 10 → b ≢ 47
digit_apart b low e = let k : digit_value 47 < 10 = subst (λ (x : ℕ). digit_value x < 10) e low in omega arith

digits_flat : (ds : List ℕ) → AllDigits 10 ds → NoSlash ds
digits_flat [] all = All-nil (λ (k : ℕ). k ≢ 47)
digits_flat (b ∷ ds) all = All-cons (λ (k : ℕ). k ≢ 47) b ds (digit_apart b all.0) (digits_flat ds all.1)

-- two parts without a slash, and a plus between them
joined : (s t : List ℕ) → NoSlash s → NoSlash t → NoSlash (s ++ 43 ∷ t)
joined s t front back =
    All-append (λ (k : ℕ). k ≢ 47) s (43 ∷ t) front (All-cons (λ (k : ℕ). k ≢ 47) 43 t (λ e. omega (arith, e)) back)

first_of : (s t : List ℕ) → 0 < length s → IsAsciiAlphabetic (slice_index s 0) → IsAsciiAlphabetic (slice_index (s ++ t) 0)
first_of [] t some letter = absurd (omega (arith, some))
first_of (b ∷ s) t some letter = letter

pub inside : (t : Token) → IsToken t → IsInside (name_of t)
inside t is =
    let small : t.row < 2 ^ 64 = omega (arith, is.row.1) in
    let row : NoSlash (decimal t.row) = digits_flat (decimal t.row) (decimal_is_IsNumeral t.row small).0.1 in
    let name : NoSlash (t.name ++ 43 ∷ decimal t.row) = joined t.name (decimal t.row) (name_has_none t.name is.name) row in
    record {
      flat = joined t.stack (t.name ++ 43 ∷ decimal t.row) (name_has_none t.stack is.stack.name) name;
      letter = first_of t.stack (43 ∷ (t.name ++ 43 ∷ decimal t.row)) is.stack.name.some is.stack.letter;
    }
