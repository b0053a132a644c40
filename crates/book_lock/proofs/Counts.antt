-- Numbers that are counted once, and sums over a list of which one element changes.
use Rattle.std.proofs.Common.{◌≡◌, ◌≢◌, ◌<◌, ◌≤◌, ◌+◌, ℕ, zero, suc, List, [], ◌∷◌, set, refl, sym, ap, ◌∙◌, arith}
use Rattle.std.specs.Prelude.{sum_by}
use Rattle.std.proofs.lemmas.List.Sums.{sum_by-cons}
use Rattle.std.proofs.lemmas.Bool.Decides.{nat_tests}
use mathlib.Core.Option.{some, some-injective, some-ne-none}
use lib.ListN.{get_elem?}
use Rattle.book_lock.specs.Places.{places_from, once_between, times}

-- what is counted up to a number, and from there on
pub once_split : (a b c x : ℕ) → a ≤ b → b ≤ c → once_between a b x + once_between b c x ≡ once_between a c x
once_split a b c x h k = grind (arith, nat_tests)

pub once_none : (a x : ℕ) → once_between a a x ≡ 0
once_none a x = grind (arith, nat_tests)

pub once_here : (a : ℕ) → once_between a (suc a) a ≡ 1
once_here a = grind (arith, nat_tests)

-- what is counted lies between the bounds
pub once_within_low : (a b x : ℕ) → 1 ≤ once_between a b x → a ≤ x
once_within_low a b x h = grind (arith, nat_tests)

pub once_within_high : (a b x : ℕ) → 1 ≤ once_between a b x → x < b
once_within_high a b x h = grind (arith, nat_tests)

pub once_at_most : (a b x : ℕ) → once_between a b x ≤ 1
once_at_most a b x = grind (arith, nat_tests)

module _ {A : Type 0} (f : A → ℕ) where
  pub sum_set : (l : List A) (i : ℕ) (a b : A) → get_elem? l i ≡ some a → sum_by f (set l i b) + f a ≡ sum_by f l + f b
  sum_set [] i a b e = absurd (some-ne-none a (sym e))
  sum_set (x ∷ xs) zero a b e = omega (arith, sum_by-cons f b xs, sum_by-cons f x xs, ap f (some-injective x a e))
  sum_set (x ∷ xs) (suc i) a b e = omega (arith, sum_set xs i a b e, sum_by-cons f x (set xs i b), sum_by-cons f x xs)

  pub sum_at : (l : List A) (i : ℕ) (a : A) → get_elem? l i ≡ some a → f a ≤ sum_by f l
  sum_at [] i a e = absurd (some-ne-none a (sym e))
  sum_at (x ∷ xs) zero a e = omega (arith, sum_by-cons f x xs, ap f (some-injective x a e))
  sum_at (x ∷ xs) (suc i) a e = omega (arith, sum_at xs i a e, sum_by-cons f x xs)

  pub sum_two : (l : List A) (i j : ℕ) (a b : A) → i ≢ j → get_elem? l i ≡ some a → get_elem? l j ≡ some b → f a + f b ≤ sum_by f l
  sum_two [] i j a b n e d = absurd (some-ne-none a (sym e))
  sum_two (x ∷ xs) zero zero a b n e d = absurd (n refl)
  sum_two (x ∷ xs) zero (suc j) a b n e d = omega (arith, sum_at xs j b d, sum_by-cons f x xs, ap f (some-injective x a e))
  sum_two (x ∷ xs) (suc i) zero a b n e d = omega (arith, sum_at xs i a e, sum_by-cons f x xs, ap f (some-injective x b d))
  sum_two (x ∷ xs) (suc i) (suc j) a b n e d = omega (arith, sum_two xs i j a b (λ s. n (ap suc s)) e d, sum_by-cons f x xs)

-- places that rise one by one are counted once each
pub times-places_from : (first count x : ℕ) → times x (places_from first count) ≡ once_between first (first + count) x
times-places_from first zero x = let same : first ≡ first + 0 = omega arith in sym (once_none first x) ∙ ap (λ n. once_between first n x) same
times-places_from first (suc count) x =
    let same : suc first + count ≡ first + suc count = omega arith in
    sum_by-cons (λ y. once_between y (suc y) x) first (places_from (suc first) count)
    ∙ ap (λ n. once_between first (suc first) x + n) (times-places_from (suc first) count x)
    ∙ once_split first (suc first) (suc first + count) x (omega arith) (omega arith)
    ∙ ap (λ n. once_between first n x) same
