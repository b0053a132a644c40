-- The first LF of bytes that were searched in part, and of bytes with more behind.
use Rattle.std.proofs.Common.{◌≡◌, ℕ, suc, zero, ◌+◌, ◌-◌, ◌<◌, ◌≤◌, List, [], ◌∷◌, ◌++◌, Bool, false, cond, length, take, drop, ap, sym, ◌∙◌, arith, eqb, not, Option, Some, None, length-drop}
use Rattle.std.specs.List.{position, position_or_len}
use Rattle.std.specs.Option.{option_map, is_some}
use Rattle.std.proofs.lemmas.List.{take_all}
use Rattle.std.proofs.lemmas.List.Sums.{prefix_len-le-length}
use Rattle.std.proofs.lemmas.List.Folds.{prefix_len-append}

-- it is no further than the end
pub position_or_len-le : {X : Type 0} (p : X → Bool) (xs : List X) → position_or_len p xs ≤ length xs
position_or_len-le p xs = prefix_len-le-length (λ x. not (p x)) xs

-- where none stands in front, it is the first of what is behind
pub position_or_len-drop : {X : Type 0} (p : X → Bool) (from : ℕ) (xs : List X) → from ≤ position_or_len p xs
    → position_or_len p xs ≡ from + position_or_len p (drop from xs)
position_or_len-drop p zero xs le = omega arith
position_or_len-drop p (suc from) [] le = omega (arith, le)
position_or_len-drop p (suc from) (x ∷ xs) le = grind (arith, le, position_or_len-drop p from xs)

pub position-drop : {X : Type 0} (p : X → Bool) (from : ℕ) (xs : List X) → from ≤ position_or_len p xs → from ≤ length xs
    → position p xs ≡ option_map (λ count. from + count) (position p (take (length xs - from) (drop from xs)))
position-drop p from xs le within =
    rw (take_all (length xs - from) (drop from xs) (omega (arith, length-drop from xs)))
    (grind (arith, position_or_len-drop p from xs le, length-drop from xs, position_or_len-le p xs))

-- the same of a search that found r behind
pub position_is : {X : Type 0} (p : X → Bool) (from : ℕ) (xs seen : List X) (found r : Option ℕ) → from ≤ length xs → from ≤ position_or_len p xs
    → seen ≡ xs → found ≡ position p (take (length seen - from) (drop from seen)) → found ≡ r → option_map (λ count. from + count) r ≡ position p xs
position_is p from xs seen found r within le is search at_r =
    ap (option_map (λ count. from + count)) (sym at_r ∙ search ∙ ap (λ ys. position p (take (length ys - from) (drop from ys))) is)
    ∙ sym (position-drop p from xs le within)

-- where it is found it is in the list, and no further than the end where it isn't
pub position-Some : {X : Type 0} (p : X → Bool) (xs : List X) (count : ℕ) → Some count ≡ position p xs → (count ≡ position_or_len p xs) × (count < length xs)
position-Some p xs count is = (grind (arith, is), grind (arith, is))

pub position-None : {X : Type 0} (p : X → Bool) (xs : List X) → None ≡ position p xs → position_or_len p xs ≡ length xs
position-None p xs is = grind (arith, is, position_or_len-le p xs)

-- with more behind
pub position_or_len-append : {X : Type 0} (p : X → Bool) (xs ys : List X)
    → position_or_len p (xs ++ ys) ≡ cond (eqb (position_or_len p xs) (length xs)) (length xs + position_or_len p ys) (position_or_len p xs)
position_or_len-append p xs ys = prefix_len-append (λ x. not (p x)) xs ys

pub position_or_len-within : {X : Type 0} (p : X → Bool) (xs ys : List X) → position_or_len p xs < length xs → position_or_len p (xs ++ ys) ≡ position_or_len p xs
position_or_len-within p xs ys lt = grind (arith, position_or_len-append p xs ys)

pub position_or_len-grows : {X : Type 0} (p : X → Bool) (xs ys : List X) → position_or_len p xs ≤ position_or_len p (xs ++ ys)
position_or_len-grows p xs ys = grind (arith, position_or_len-append p xs ys)

pub position_or_len-none : {X : Type 0} (p : X → Bool) (xs : List X) (r : Option ℕ) → is_some r ≡ false → r ≡ position p xs → position_or_len p xs ≡ length xs
position_or_len-none p xs None none is = position-None p xs is
position_or_len-none p xs (Some count) none is = grind (arith, none)

-- all that was searched stands in front of what came
pub searched_more : {X : Type 0} (p : X → Bool) (xs ys all : List X) → all ≡ xs ++ ys → position_or_len p xs ≡ length xs → length xs ≤ position_or_len p all
searched_more p xs ys all is none = rw (is, ← none) (position_or_len-grows p xs ys)
