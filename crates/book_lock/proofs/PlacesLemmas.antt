-- Places that are put behind others.
use Rattle.std.proofs.Common.{◌≡◌, ◌<◌, ◌≤◌, ◌+◌, ◌-◌, ◌++◌, ℕ, List, length, get_or, refl, sym, ◌∙◌, subst, arith, zero, suc, length-append}
use Rattle.std.specs.Prelude.{All}
use Rattle.std.specs.List.Sorted.{IsStrictlyIncreasing}
use Rattle.std.proofs.lemmas.List.{get_or_append_left, get_or-append_right}
use mathlib.Core.Logic.{dite}
use Rattle.std.proofs.Math.Decide.{dec_lt}
use Rattle.book_lock.specs.Places.{places_from}

pub length-places_from : (first count : ℕ) → length (places_from first count) ≡ count
length-places_from first zero = refl
length-places_from first (suc count) = omega (arith, length-places_from (suc first) count)

pub get_or-places_from : (first count k d : ℕ) → k < count → get_or (places_from first count) k d ≡ first + k
get_or-places_from first zero k d h = absurd (omega arith)
get_or-places_from first (suc count) zero d h = omega arith
get_or-places_from first (suc count) (suc k) d h = get_or-places_from (suc first) count k d (omega arith) ∙ omega arith

pub get_or-behind : (xs : List ℕ) (first count k d : ℕ) → length xs ≤ k → k < length xs + count → get_or (xs ++ places_from first count) k d ≡ first + (k - length xs)
get_or-behind xs first count k d low high =
    get_or-append_right xs (places_from first count) (length xs) k d refl low ∙ get_or-places_from first count (k - length xs) d (omega arith)

-- a fact of the places so far and of those behind
pub All-behind : (P : ℕ → Type 0) (xs : List ℕ) (first count : ℕ) → All P xs → ((k : ℕ) → first ≤ k → k < first + count → P k) → All P (xs ++ places_from first count)
All-behind P xs first count a b k d h =
    let size : k < length xs + count = omega (arith, h, length-append xs (places_from first count), length-places_from first count) in
    dite (dec_lt k (length xs))
    (λ low. subst P (sym (get_or_append_left xs (places_from first count) d k low)) (a k d low))
    (λ high. subst P (sym (get_or-behind xs first count k d (omega (arith, high)) size)) (b (first + (k - length xs)) (omega arith) (omega (arith, high, size))))

-- they rise where all so far are below them
pub rising-behind : (xs : List ℕ) (first count : ℕ) → IsStrictlyIncreasing xs → All (λ x. x < first) xs → IsStrictlyIncreasing (xs ++ places_from first count)
rising-behind xs first count up below k h =
    let size : k + 1 < length xs + count = omega (arith, h, length-append xs (places_from first count), length-places_from first count) in
    dite (dec_lt (k + 1) (length xs))
    (λ low.
    let one = get_or_append_left xs (places_from first count) 0 k (omega (arith, low)) in
    let two = get_or_append_left xs (places_from first count) 0 (k + 1) low in
    omega (arith, one, two, up k low))
    (λ high.
    let two = get_or-behind xs first count (k + 1) 0 (omega (arith, high)) size in
    dite (dec_lt k (length xs))
    (λ low. omega (arith, get_or_append_left xs (places_from first count) 0 k low, two, below k 0 low))
    (λ over. omega (arith, get_or-behind xs first count k 0 (omega (arith, over)) (omega (arith, size)), two, over)))
